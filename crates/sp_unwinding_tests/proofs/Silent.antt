-- A specification over two levels that does nothing is well-formed, and has no flow formulas.
use Rattle.std.proofs.Common.{◌≡◌, refl, sym, ap, subst, arith, ℕ, List, [], ◌∷◌, Some}
use Rattle.std.specs.Prelude.{codes, slice_get}
use Rattle.sp_lattice.specs.Order.{IsLatticeOrder, Order}
use Rattle.sp_core.specs.declared.function.Assertion.{Assertion}
use Rattle.sp_core.specs.declared.function.Function.{Function}
use Rattle.sp_core.specs.declared.function.Param.{Param}
use Rattle.sp_core.specs.declared.function.TypeInfo.{TypeInfo}
use Rattle.sp_core.specs.Parts.{Parts, signature}
use Rattle.sp_core.specs.WellFormed.{IsFunction, IsWellFormed}
use Rattle.sp_formulas.specs.Formulas.{formulas, formulas_from}
use Rattle.sp_examples.specs.Common.{IsLowHigh, over_low_high}
use Rattle.sp_examples.proofs.Parts.{over_fine}

silent_fine : (o : Order) → IsLatticeOrder o → IsLowHigh o → IsWellFormed (over_low_high (codes "silent") [] [] o)
silent_fine o lattice order = over_fine (codes "silent") [] [] o lattice order.count_same refl (omega arith) (omega arith) none
  where
    none : (g : ℕ) (f : Function) → slice_get [] g ≡ Some f → IsFunction (signature (over_low_high (codes "silent") [] [] o)) g f
    none g f e = cc

-- parts that are those of it are well-formed
pub silent_assembles : (o : Order) (name : List ℕ) (levels : List (List ℕ)) (types : List TypeInfo) (params : List Param) (assertions : List Assertion) (functions : List Function) → IsLatticeOrder o → IsLowHigh o
    → name ≡ codes "silent" → levels ≡ codes "LOW" ∷ codes "HIGH" ∷ [] → types ≡ [] → params ≡ [] → assertions ≡ [] → functions ≡ []
    → IsWellFormed (record { name = name; lattice = o; level_names = levels; types = types; params = params; assertions = assertions; functions = functions })
silent_assembles o name levels types params assertions functions lattice order a b c d e f =
    subst IsWellFormed (sym (λ i. record { name = a i; lattice = o; level_names = b i; types = c i; params = d i; assertions = e i; functions = f i })) (silent_fine o lattice order)

-- without functions there are no formulas
pub no_formulas : (p : Parts) → p.functions ≡ [] → [] ≡ formulas p
no_formulas p e = sym (ap (formulas_from p 0) e)
