-- Users, and tables that give one level everywhere, are an instance of the specification of clearances.
use Rattle.std.proofs.Common.{◌≡◌, sym, ◌∙◌, ap, subst, arith, refl, ℕ, zero, suc, ◌≤◌, List, [], ◌∷◌, length, None, Some}
use Rattle.std.specs.Prelude.{IsTrue, slice_get}
use Rattle.std.proofs.lemmas.List.Elements.{All-nil}
use Rattle.sp_lattice.specs.Order.{Order}
use Rattle.sp_values.specs.declared.value.Ty.TheVariants as ty
use Rattle.sp_values.specs.declared.value.Value.TheVariants as value
use Rattle.sp_values.specs.Domains.{Sizes, are_values, is_value}
use Rattle.sp_core.specs.declared.function.Param.{Param}
use Rattle.sp_core.specs.declared.function.TypeInfo.{TypeInfo}
use Rattle.sp_core.specs.Instances.{InstanceParts, IsInstanceOf, IsTable, TableParts, filling_of, sizes_of}
use Rattle.sp_core.specs.Machine.{types_of}
use Rattle.sp_core.specs.Parts.{Parts}
use Rattle.sp_core.specs.WellFormed.{AreDifferent}
use Rattle.sp_examples.specs.Common.{AreOverLowHigh}
use Rattle.sp_examples.proofs.NameLemmas.{AreDifferent-by, some_same}
use Rattle.sp_examples.proofs.Parts.{All-two}
use Rattle.sp_eval_examples.specs.Clearances.{base, clearances, clr, colour_type, colours, everywhere, instance_of, one_user, user_type}

-- sizes with n levels
abbrev sized : ℕ → (ℕ → ℕ) → Sizes
sized n members = record { levels = n; members = members }

everywhere_fine : (n : ℕ) → n ≡ 2 → (members : ℕ → ℕ) (q : Param) → q.ty ≡ ty.Level → (l : ℕ) → IsTrue (is_value (sized 2 members) ty.Level (value.Level l)) → IsTable (sized n members) q (everywhere l)
everywhere_fine n two members q level l h = record {
  arguments = All-nil (λ r. IsTrue (are_values (sized n members) (types_of q.formals) r.0));
  values = All-nil (λ r. IsTrue (is_value (sized n members) q.ty r.1));
  other = subst (λ t. IsTrue (is_value (sized n members) t (value.Level l))) (sym level) (subst (λ m. IsTrue (is_value (sized m members) ty.Level (value.Level l))) (sym two) h);
  different = λ i j a b d e s. absurd cc;
}

module _ (o : Order) (two : o.count ≡ 2) (l m : ℕ) where
  abbrev made : InstanceParts
  made = instance_of one_user (everywhere l) (everywhere m)

  abbrev sizes : Sizes
  sizes = sizes_of (clearances o) (filling_of made)

  declared : (k : ℕ) (info : TypeInfo) (names : List (List ℕ)) → slice_get (user_type ∷ colour_type ∷ []) k ≡ Some info → info.members ≡ Some names → slice_get made.members k ≡ Some names
  declared zero info names e f = let g : None ≡ Some names = ap (λ (x : TypeInfo). x.members) (some_same e) ∙ f in absurd cc
  declared (suc zero) info names e f = ap (λ (x : TypeInfo). x.members) (some_same e) ∙ f
  declared (suc (suc k)) info names e f = cc

  sized_as : (k : ℕ) (info : TypeInfo) (names : List (List ℕ)) → slice_get (user_type ∷ colour_type ∷ []) k ≡ Some info → info.members ≡ Some names → slice_get (filling_of made).sizes k ≡ Some (length names)
  sized_as zero info names e f = let g : None ≡ Some names = ap (λ (x : TypeInfo). x.members) (some_same e) ∙ f in absurd cc
  sized_as (suc zero) info names e f = ap (λ (ns : List (List ℕ)). Some (length ns)) (some_same (ap (λ (x : TypeInfo). x.members) (some_same e) ∙ f))
  sized_as (suc (suc k)) info names e f = cc

  module _ (low : IsTrue (is_value (sized 2 sizes.members) ty.Level (value.Level l))) (high : IsTrue (is_value (sized 2 sizes.members) ty.Level (value.Level m))) where
    tables : (n : ℕ) (q : Param) (t : TableParts) → slice_get (clr ∷ base ∷ []) n ≡ Some q → slice_get made.tables n ≡ Some t → IsTable sizes q t
    tables zero q t e f = subst (λ (p : Param). IsTable sizes p t) (some_same e) (subst (IsTable sizes clr) (some_same f) (everywhere_fine o.count two sizes.members clr refl l low))
    tables (suc zero) q t e f = subst (λ (p : Param). IsTable sizes p t) (some_same e) (subst (IsTable sizes base) (some_same f) (everywhere_fine o.count two sizes.members base refl m high))
    tables (suc (suc n)) q t e f = cc

    is_instance : IsInstanceOf (clearances o) made
    is_instance = record {
      few = All-two (λ names. length names ≤ 64) one_user colours (omega arith) (omega arith);
      different = All-two AreDifferent one_user colours (AreDifferent-by one_user refl) (AreDifferent-by colours refl);
      members = declared;
      instance = record { sizes = refl; enumerations = sized_as; tables = refl; each = tables };
    }

-- one user, LOW everywhere, or HIGH as the base
pub all_low_fits : (p : Parts) → AreOverLowHigh clearances p → IsInstanceOf p (instance_of one_user (everywhere 0) (everywhere 0))
all_low_fits p a = subst (λ q. IsInstanceOf q (instance_of one_user (everywhere 0) (everywhere 0))) (sym a.parts) (is_instance p.lattice a.order.count_same 0 0 refl refl)

pub base_is_high_fits : (p : Parts) → AreOverLowHigh clearances p → IsInstanceOf p (instance_of one_user (everywhere 0) (everywhere 1))
base_is_high_fits p a = subst (λ q. IsInstanceOf q (instance_of one_user (everywhere 0) (everywhere 1))) (sym a.parts) (is_instance p.lattice a.order.count_same 0 1 refl refl)
