-- Whether two values, or two lists of values, are one, as a test that computes.
use Rattle.std.specs.Prelude.{◌≡◌, Bool, true, false, ◌==◌, ◌&&◌, List, [], ◌∷◌}
use Rattle.std.proofs.Common.{refl, sym, ap, rules}
use Rattle.std.specs.Bool.{Decides, one_answer}
use Rattle.std.specs.Cmp.{IsEquivalence}
use Rattle.std.specs.Ordering.{int_eq}
use Rattle.sp_values.specs.declared.value.Value.{Value}
use Rattle.sp_values.specs.declared.value.Value.TheVariants as value

abbrev pub same_truth : Bool → Bool → Bool
same_truth true b = b
same_truth false true = false
same_truth false false = true

-- identity of values, `?` included
abbrev pub same_value : Value → Value → Bool
same_value (value.Truth a) (value.Truth b) = same_truth a b
same_value (value.Int a) (value.Int b) = int_eq a b
same_value (value.Level a) (value.Level b) = a == b
same_value (value.Member k a) (value.Member j b) = (k == j) && (a == b)
same_value value.Unknown value.Unknown = true
same_value a b = false

-- identity of lists of values
abbrev pub same_values : List Value → List Value → Bool
same_values [] [] = true
same_values (a ∷ as') (b ∷ bs) = same_value a b && same_values as' bs
same_values as' bs = false

-- the tests decide equality
pub same_value-Decides : (a b : Value) → Decides (same_value a b) (a ≡ b)
same_value-Decides a b = search rules

and_true : (a b : Bool) → (a && b) ≡ true → (a ≡ true) × (b ≡ true)
and_true true true e = (refl, refl)
and_true true false e = (refl, e)
and_true false b e = cc

both_true : (a b : Bool) → a ≡ true → b ≡ true → (a && b) ≡ true
both_true true b p q = q
both_true false b p q = p

pub same_values-Decides : (xs ys : List Value) → Decides (same_values xs ys) (xs ≡ ys)
same_values-Decides [] [] = (λ e. refl, λ e. refl)
same_values-Decides [] (y ∷ ys) = (λ e. cc, λ e. cc)
same_values-Decides (x ∷ xs) [] = (λ e. cc, λ e. cc)
same_values-Decides (x ∷ xs) (y ∷ ys) =
    let a = same_value-Decides x y in
    let b = same_values-Decides xs ys in (
      λ e. let h = and_true (same_value x y) (same_values xs ys) e in λ i. a.0 h.0 i ∷ b.0 h.1 i,
      λ e. both_true (same_value x y) (same_values xs ys) (a.1 cc) (b.1 cc),
    )

pub same_values_equivalence : IsEquivalence same_values
same_values_equivalence = record {
  refl = λ xs. (same_values-Decides xs xs).1 refl;
  symm = λ xs ys. one_answer (same_values xs ys) (same_values ys xs) (same_values-Decides xs ys) (λ e. sym ((same_values-Decides ys xs).0 e), λ e. (same_values-Decides ys xs).1 (sym e));
  congr = λ xs ys zs e. ap (λ ws. same_values ws zs) ((same_values-Decides xs ys).0 e);
}
