use Rattle.std.proofs.Common.{◌≡◌, take}
use Rattle.std.specs.List.{flat_map}
use Rattle.sp_text.specs.Violations.{first}
use Rattle.sp_functions.specs.Exceptions.{condition_broken}
use Rattle.sp_functions.proofs.exceptions.judge_conditions.Given as goal

abbrev pub invariant-loop-exception : goal.invariant-loop-exception
invariant-loop-exception l = l.found ≡ first (flat_map (condition_broken l.scope l.formals) (take l.exception-index l.exceptions))
