use Rattle.std.proofs.Common.{◌≡◌, take}
use Rattle.std.specs.Prelude.{map}
use Rattle.sp_scopes.specs.Lent.{declared_type}
use Rattle.sp_scopes.proofs.lent.module_types.Given as goal

abbrev pub invariant-loop-ty : goal.invariant-loop-ty
invariant-loop-ty l = l.all.items ≡ map declared_type (take l.ty-index l.types)
