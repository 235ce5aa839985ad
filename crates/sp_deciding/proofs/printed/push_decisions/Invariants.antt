use Rattle.std.proofs.Common.{◌≡◌, ◌++◌, drop, map, ◌+◌}
use Rattle.sp_formulas.specs.Formulas.{formula_as}
use Rattle.sp_deciding.specs.Verdicts.{all_lines}
use Rattle.sp_deciding.proofs.printed.push_decisions.Given as goal

-- the lines so far stand before those that are left
abbrev pub invariant-loop-k : goal.invariant-loop-k
invariant-loop-k l =
    l.out.items ++ all_lines l.spec (l.k + 1) (map formula_as (drop l.k l.formulas)) (drop l.k l.decisions)
    ≡ l.initial.out.items ++ all_lines l.spec 1 (map formula_as l.formulas) l.decisions
