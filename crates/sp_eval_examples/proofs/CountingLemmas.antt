-- What may be asked of the specification that counts.
use Rattle.std.proofs.Common.{◌≡◌, refl, sym, subst, List, []}
use Rattle.sp_values.specs.declared.value.Ty.TheVariants as ty
use Rattle.sp_values.specs.declared.value.Value.{Value}
use Rattle.sp_core.specs.Instances.{InstanceParts}
use Rattle.sp_core.specs.Parts.{Parts}
use Rattle.sp_eval.specs.Conditions.{IsRead}
use Rattle.sp_examples.specs.Common.{AreOverLowHigh}
use Rattle.sp_examples.specs.Counting.{count_function, counting}

-- the last function is a V-function without formals
pub last_is_read : (p : Parts) → AreOverLowHigh counting p → (i : InstanceParts) (v : List Value) → v ≡ [] → IsRead p i 16 v
last_is_read p a i v e = subst (λ q. IsRead q i 16 v) (sym a.parts) (subst (IsRead (counting p.lattice) i 16) (sym e) (count_function 16, ty.Integer, record { function = refl; type = refl; arguments = refl }))
