use Rattle.std.proofs.Common.{◌≡◌, take}
use Rattle.std.specs.List.{flat_map}
use Rattle.sp_text.specs.Violations.{first}
use Rattle.sp_functions.specs.Equations as spec
use Rattle.sp_functions.proofs.equations.judge_each.Given as goal

abbrev pub invariant-loop-equation : goal.invariant-loop-equation
invariant-loop-equation l = l.found ≡ first (flat_map (spec.equation_broken l.scope) (take l.equation-index l.equations))
