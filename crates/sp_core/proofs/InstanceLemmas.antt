-- Reading a list of lists of names at an index, and the rows of a table by their arguments.
use Rattle.std.proofs.Common.{◌≡◌, refl, sym, ◌∙◌, ap, arith, ℕ, zero, suc, ◌<◌, ◌≤◌, Bool, true, false, cond, List, [], ◌∷◌, length, map, Option, Some}
use Rattle.std.specs.Prelude.{slice_index_or, unwrap_or}
use Rattle.std.specs.List.{All}
use Rattle.std.specs.Map.{lookup}
use Rattle.sp_values.specs.declared.value.Value.{Value}
use Rattle.sp_values.specs.Identity.{same_values, same_values_equivalence}
use Rattle.sp_core.specs.Instances.{row_value}

module _ {X : Type 0} (items : X → List (List ℕ)) where
  pub names-at : (vs : List X) (k : ℕ) (d : X) → k < length vs → d ≡ slice_index_or vs k d → slice_index_or (map items vs) k [] ≡ items d
  names-at [] k d l e = absurd (omega (arith, l))
  names-at (v ∷ vs) zero d l e = ap items (sym e)
  names-at (v ∷ vs) (suc k) d l e = names-at vs k d (omega (arith, l)) e

  pub size-at : (vs : List X) (k : ℕ) (d : X) → k < length vs → d ≡ slice_index_or vs k d → slice_index_or (map (λ names. length names) (map items vs)) k 0 ≡ length (items d)
  size-at [] k d l e = absurd (omega (arith, l))
  size-at (v ∷ vs) zero d l e = ap (λ x. length (items x)) (sym e)
  size-at (v ∷ vs) (suc k) d l e = size-at vs k d (omega (arith, l)) e

  pub few-at : (vs : List X) (k : ℕ) (d : X) → All (λ names. length names ≤ 64) (map items vs) → k < length vs → d ≡ slice_index_or vs k d → length (items d) ≤ 64
  few-at [] k d a l e = absurd (omega (arith, l))
  few-at (v ∷ vs) zero d a l e =
      let p : length (items v) ≤ 64 = a 0 [] (omega arith) in
      let q : length (items d) ≡ length (items v) = ap (λ x. length (items x)) e in
      omega (arith, p, q)
  few-at (v ∷ vs) (suc k) d a l e = few-at vs k d (λ j b lt. a (suc j) b (omega (arith, lt))) (omega (arith, l)) e

  pub within-at : (vs : List X) (k : ℕ) → k < length (map items vs) → k < length vs
  within-at [] k l = l
  within-at (v ∷ vs) zero l = omega arith
  within-at (v ∷ vs) (suc k) l = let q = within-at vs k (omega (arith, l)) in omega (arith, q)

-- the rows give the value that the map has at the arguments, and the other value where it has none
pub row_value-lookup : (rs : List (List Value × Value)) (other : Value) (v : List Value) → row_value rs other v ≡ unwrap_or (lookup (same_values v) rs) other
row_value-lookup [] other v = refl
row_value-lookup (r ∷ rs) other v = (λ i. cond (same_values_equivalence.symm r.0 v i) r.1 (row_value-lookup rs other v i)) ∙ either (same_values v r.0) (lookup (same_values v) rs)
  where
    either : (b : Bool) (o : Option Value) → cond b r.1 (unwrap_or o other) ≡ unwrap_or (cond b (Some r.1) o) other
    either true o = refl
    either false o = refl
