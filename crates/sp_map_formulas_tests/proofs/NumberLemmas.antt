-- The specification of one number is well-formed, and the mapping of one row is one to it.
use Rattle.std.proofs.Common.{◌≡◌, ◌<◌, refl, true, subst, arith, ℕ, zero, suc, [], ◌∷◌, Some}
use Rattle.std.specs.Prelude.{slice_get, codes}
use Rattle.std.proofs.lemmas.List.Elements.{All-cons, All-nil}
use Rattle.std.proofs.lemmas.Option.{none-some, same_Some}
use Rattle.sp_lattice.specs.Order.{IsLatticeOrder, Order}
use Rattle.sp_values.specs.declared.value.Ty.{Ty}
use Rattle.sp_values.specs.declared.value.Ty.TheVariants as ty
use Rattle.sp_core.specs.declared.function.Function.{Function}
use Rattle.sp_core.specs.declared.mapping.MapRow.{MapRow}
use Rattle.sp_core.specs.Mappings.{IsMappingTo, IsRow}
use Rattle.sp_core.specs.Parts.{signature}
use Rattle.sp_core.specs.Typing.{Signature}
use Rattle.sp_core.specs.WellFormed.{IsFunction, IsKind, IsWellFormed}
use Rattle.sp_core.proofs.TreeLemmas.{tree_lemmas}
use Rattle.sp_examples.specs.Common.{look_at, low}
use Rattle.sp_examples.proofs.Parts.{function_fine, low_fine, no_formals, over_fine}
use Rattle.sp_map_formulas_tests.specs.Worked.{number_function, number_mapping, one_number}

module _ (o : Order) (two : o.count ≡ 2) where
  abbrev sg : Signature
  sg = signature (one_number o)

  kind_fine : IsKind sg [] 0 number_function.kind
  kind_fine = record {
    type = refl;
    expression = simp tree_lemmas (record { typed = refl; few_nodes = omega arith; few_quantifiers = omega arith; no_new = tt });
    reads_nothing = simp tree_lemmas tt;
  }

  function_is_fine : IsFunction sg 0 number_function
  function_is_fine = function_fine sg 0 true (codes "a") [] number_function.kind low (no_formals sg) kind_fine (simp tree_lemmas (omega arith)) (low_fine sg two [])

  functions_fine : (g : ℕ) (f : Function) → slice_get (number_function ∷ []) g ≡ Some f → IsFunction sg g f
  functions_fine zero f e = subst (IsFunction sg 0) (same_Some number_function f e) function_is_fine
  functions_fine (suc g) f e = absurd (none-some f e)

  pub number_well_formed : IsLatticeOrder o → IsWellFormed (one_number o)
  number_well_formed lattice = over_fine (codes "number") [] (number_function ∷ []) o lattice two refl (omega arith) (omega arith) functions_fine

  abbrev row : MapRow
  row = record { upper = 3; name = codes "data"; formals = []; value = look_at 0; level = low }

  row_fine : IsRow sg row ty.Integer
  row_fine =
      let level = low_fine sg two [] in
      record {
        formals = no_formals sg;
        value = simp tree_lemmas (record { typed = (number_function, refl, refl, tt); few_nodes = omega arith; few_quantifiers = omega arith; no_new = (tt, tt) });
        level = level.expression;
        level_reads_nothing = level.reads_nothing;
      }

  same_place : (i j : ℕ) (a b : MapRow) → slice_get (row ∷ []) i ≡ Some a → slice_get (row ∷ []) j ≡ Some b → i ≡ j
  same_place zero zero a b e d = refl
  same_place zero (suc j) a b e d = absurd (none-some b d)
  same_place (suc i) j a b e d = absurd (none-some a e)

  pub number_mapped : IsMappingTo (one_number o) number_mapping
  number_mapped = record {
    types = All-nil (λ k. k < 0);
    rows = All-cons (λ (r : MapRow). (t : Ty) × IsRow sg r t) row [] (ty.Integer, row_fine) (All-nil (λ (r : MapRow). (t : Ty) × IsRow sg r t));
    different = λ i j a b e d same. same_place i j a b e d;
  }
