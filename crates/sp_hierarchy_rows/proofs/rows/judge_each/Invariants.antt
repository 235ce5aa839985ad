use Rattle.std.proofs.Common.{drop, string_bytes, take}
use Rattle.sp_hierarchy_rows.specs.Lowest.{AreDifferent}
use Rattle.sp_hierarchy_rows.proofs.Progress.{First}
use Rattle.sp_hierarchy_rows.proofs.rows.judge_each.Given as goal

-- the rows so far are judged, and no interface is the upper one of two of them
abbrev pub invariant-loop-k : goal.invariant-loop-k
invariant-loop-k l = AreDifferent (take l.k l.rows) × First l.file l.rows (take l.k l.rows) (drop l.k l.rows)
