use Rattle.std.proofs.Common.{◌≡◌, take}
use Rattle.sp_core.specs.Machine.{types_of}
use Rattle.sp_formulas.proofs.variables.types_over.Given as goal

abbrev pub invariant-loop-formal : goal.invariant-loop-formal
invariant-loop-formal l = l.all.items ≡ types_of (take l.formal-index l.formals)
