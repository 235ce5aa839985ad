-- The row of an upper place, and its values with their types translated.
use Rattle.std.proofs.Common.{◌≡◌, refl, sym, ◌∙◌, ap, subst, arith, ℕ, zero, suc, ◌+◌, ◌<◌, ◌≤◌, Bool, true, false, ◌==◌, List, [], ◌∷◌, ◌++◌, length, map, take, get_or, Some}
use Rattle.std.specs.Prelude.{IsTrue, slice_get}
use Rattle.std.specs.List.{All}
use Rattle.std.proofs.lemmas.List.{length-map}
use Rattle.std.proofs.lemmas.List.Elements.{All-head, All-tail}
use Rattle.std.proofs.lemmas.Option.{none-some, same_Some, slice_get_read, slice_get_within}
use Rattle.std.proofs.lemmas.Bool.Decides.{Decides-eqb}
use Rattle.sp_values.specs.declared.place.Place.{Place}
use Rattle.sp_values.specs.declared.value.Ty.{Ty}
use Rattle.sp_values.specs.declared.value.Value.{Value}
use Rattle.sp_values.specs.Domains.{are_values}
use Rattle.sp_core.specs.declared.mapping.Mapping.{Mapping}
use Rattle.sp_core.specs.declared.mapping.MapRow.{MapRow}
use Rattle.sp_core.specs.Instances.{InstanceParts, filling_of, sizes_of}
use Rattle.sp_core.specs.Machine.{types_of}
use Rattle.sp_core.specs.Parts.{Parts, signature}
use Rattle.sp_core.specs.Tree.{tree}
use Rattle.sp_core.proofs.Bindings.{length_values}
use Rattle.sp_eval.specs.Conditions.{HasNoNew, IsTypedIn}
use Rattle.sp_core.specs.Mappings.{IsMappingTo, IsRow}
use Rattle.sp_animator.specs.Views.{IsMapped, translated}

at_index : {X : Type 0} (P : X → Type 0) (xs : List X) (k : ℕ) (v : X) → All P xs → slice_get xs k ≡ Some v → P v
at_index P [] k v a e = absurd (none-some v e)
at_index P (u ∷ xs) zero v a e = subst P (same_Some u v e) (All-head P u xs a)
at_index P (u ∷ xs) (suc k) v a e = at_index P xs k v (All-tail P u xs a) e

-- values, one after the other

pub map_next : (f : Value → Value) (vs : List Value) (k : ℕ) (v : Value) → slice_get vs k ≡ Some v → map f (take (k + 1) vs) ≡ map f (take k vs) ++ f v ∷ []
map_next f vs k v e = ap (λ n. map f (take n vs)) (let more : k + 1 ≡ suc k = omega arith in more) ∙ by vs k e
  where
    by : (vs : List Value) (k : ℕ) → slice_get vs k ≡ Some v → map f (take (suc k) vs) ≡ map f (take k vs) ++ f v ∷ []
    by [] k e = absurd (none-some v e)
    by (u ∷ vs) zero e = ap (λ x. f x ∷ []) (same_Some u v e)
    by (u ∷ vs) (suc k) e = ap (λ xs. f u ∷ xs) (by vs k e)

pub map_few : (f : Value → Value) (vs : List Value) (k : ℕ) → length (map f (take k vs)) ≤ k
map_few f vs zero = omega arith
map_few f [] (suc k) = omega arith
map_few f (v ∷ vs) (suc k) = let few = map_few f vs k in omega (arith, few)

module _ (p : Parts) (inst : InstanceParts) (m : Mapping) (place : Place) (fits : IsMappingTo p m) (mapped : IsMapped p inst m place) where
  -- the place's values are of the types of its row's formals
  row_typed : (j : ℕ) (r : MapRow) → slice_get m.functions j ≡ Some r → r.upper ≡ place.fun → IsTrue (are_values (sizes_of p (filling_of inst)) (types_of r.formals) (map (translated m.types) place.args))
  row_typed j r there upper =
      let at = mapped.2 in
      let one : j ≡ mapped.0 = fits.different j mapped.0 r mapped.1 there at.there (upper ∙ sym at.upper) in
      let same : mapped.1 ≡ r = same_Some mapped.1 r (sym at.there ∙ ap (slice_get m.functions) (sym one) ∙ there) in
      subst (λ (q : MapRow). IsTrue (are_values (sizes_of p (filling_of inst)) (types_of q.formals) (map (translated m.types) place.args))) same at.arguments

  pub value_typed : (j : ℕ) (r : MapRow) → slice_get m.functions j ≡ Some r → r.upper ≡ place.fun → (x : List Value) → x ≡ map (translated m.types) place.args → IsTypedIn p inst x (tree r.value)
  value_typed j r there upper x e =
      let row = at_index (λ (r : MapRow). (t : Ty) × IsRow (signature p) r t) m.functions j r fits.rows there in
      let values = subst (λ x. IsTrue (are_values (sizes_of p (filling_of inst)) (types_of r.formals) x)) (sym e) (row_typed j r there upper) in
      let long = length_values (sizes_of p (filling_of inst)) (types_of r.formals) x values in
      let many = length-map r.formals (λ q. q.ty) in
      (types_of r.formals, row.0, record { values = values; typed = row.1.value.typed; room = omega (arith, long, many, row.1.formals.few, row.1.value.few_quantifiers) })

  pub value_old : (j : ℕ) (r : MapRow) → slice_get m.functions j ≡ Some r → HasNoNew (tree r.value)
  value_old j r there = (at_index (λ (r : MapRow). (t : Ty) × IsRow (signature p) r t) m.functions j r fits.rows there).1.value.no_new

-- Rows, one after the other

pub row_there : (xs ys : List MapRow) → xs ≡ ys → (k : ℕ) (r : MapRow) → k < length xs → r ≡ get_or xs k r → slice_get ys k ≡ Some r
row_there xs ys e k r l is = subst (λ (zs : List MapRow). slice_get zs k ≡ Some r) e (slice_get_read xs (length xs) k r refl l is)

-- none of the rows up to one is of the function
pub none_yet : (rows : List MapRow) (g n : ℕ) (row : MapRow) → ((k : ℕ) (r : MapRow) → k < n → slice_get rows k ≡ Some r → r.upper ≡ g → ⊥) → slice_get rows n ≡ Some row → (row.upper ≡ g → ⊥)
    → (k : ℕ) (r : MapRow) → k < n + 1 → slice_get rows k ≡ Some r → r.upper ≡ g → ⊥
none_yet rows g n row none here other k r l there upper = by (k == n) refl
  where
    by : (b : Bool) → (k == n) ≡ b → ⊥
    by true e =
        let one : k ≡ n = (Decides-eqb k n).0 e in
        other (ap (λ (q : MapRow). q.upper) (same_Some row r (sym here ∙ ap (slice_get rows) (sym one) ∙ there)) ∙ upper)
    by false e = none k r (grind (arith, l, e)) there upper

-- a mapped place has a row
pub has_row : (p : Parts) (inst : InstanceParts) (m : Mapping) (place : Place) → IsMapped p inst m place → (xs : List MapRow) → xs ≡ m.functions → (n : ℕ) → length xs ≤ n
    → ((k : ℕ) (r : MapRow) → k < n → slice_get m.functions k ≡ Some r → r.upper ≡ place.fun → ⊥) → ⊥
has_row p inst m place (k, r, at) xs e n l none =
    let within = slice_get_within m.functions k r at.there in
    let long = ap length e in
    none k r (omega (arith, within, long, l)) at.there at.upper
