use Rattle.std.proofs.Common.{◌≡◌, take}
use Rattle.std.specs.List.{sum_by}
use Rattle.sp_making.specs.Counted.{condition_count}
use Rattle.sp_making.proofs.counting.count_conditions.Given as goal

abbrev pub invariant-loop-exception : goal.invariant-loop-exception
invariant-loop-exception l = l.all ≡ sum_by condition_count (take l.exception-index l.exceptions)
