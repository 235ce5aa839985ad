-- The names of a specification differ: each finds what it names, and what it names stands at one place.
use Rattle.std.proofs.Common.{◌≡◌, refl, sym, ◌∙◌, ap, subst, arith, ℕ, zero, suc, ◌+◌, List, [], ◌∷◌, ◌++◌, Option, Some, inl, inr, length, length-append, map, ⊎_elim}
use Rattle.std.specs.Prelude.{slice_get, ◌⊎◌}
use Rattle.std.specs.List.{flat_map}
use Rattle.sp_core.specs.declared.function.Function.{Function}
use Rattle.sp_core.specs.declared.function.Param.{Param}
use Rattle.sp_core.specs.declared.function.TypeInfo.{TypeInfo}
use Rattle.sp_core.specs.Parts.{Parts}
use Rattle.sp_core.specs.WellFormed.{AreDifferent, members_of, names_of}
use Rattle.sp_naming.specs.declared.declaration.Entity.{Entity}
use Rattle.sp_naming.specs.declared.declaration.Entity.TheVariants as entity
use Rattle.sp_well_formed.proofs.Items.{map_length, same_get, under_map}

-- the names of the parts find them
pub record AreFound (see : List ℕ → Option Entity) (p : Parts) : Type 0 where
  pub types : (t : ℕ) (i : TypeInfo) → slice_get p.types t ≡ Some i → see i.name ≡ Some (entity.Declared t)
  pub members : (t k : ℕ) (i : TypeInfo) (x : List ℕ) → slice_get p.types t ≡ Some i → slice_get (members_of i) k ≡ Some x → see x ≡ Some (entity.Member t k)
  pub params : (k : ℕ) (q : Param) → slice_get p.params k ≡ Some q → see q.name ≡ Some (entity.Param k)
  pub functions : (k : ℕ) (f : Function) → slice_get p.functions k ≡ Some f → see f.name ≡ Some (entity.Function k)
  pub levels : (k : ℕ) (x : List ℕ) → slice_get p.level_names k ≡ Some x → see x ≡ Some (entity.Level k)

-- where member k of type t stands among the members of these types
abbrev member_place : List TypeInfo → ℕ → ℕ → ℕ
member_place [] t k = k
member_place (i ∷ is) zero k = k
member_place (i ∷ is) (suc t) k = length (members_of i) + member_place is t k

-- where the name of an entity stands among all names of the parts
abbrev place_of : Parts → Entity → ℕ
place_of p (entity.Declared t) = t
place_of p (entity.Member t k) = length p.types + member_place p.types t k
place_of p (entity.Param k) = length p.types + (length (flat_map members_of p.types) + k)
place_of p (entity.Function k) = length p.types + (length (flat_map members_of p.types) + (length p.params + k))
place_of p (entity.Level k) = length p.types + (length (flat_map members_of p.types) + (length p.params + (length p.functions + k)))
place_of p (entity.Definition k) = 0

split_get : {X : Type 0} (xs ys : List X) (i : ℕ) (x : X) → slice_get (xs ++ ys) i ≡ Some x → (slice_get xs i ≡ Some x) ⊎ ((j : ℕ) × (i ≡ length xs + j) × (slice_get ys j ≡ Some x))
split_get [] ys i x e = inr (i, omega arith, e)
split_get (a ∷ xs) ys zero x e = inl e
split_get (a ∷ xs) ys (suc i) x e = ⊎_elim (λ h. inl h) (λ h. inr (h.0, omega (arith, h.1), h.2)) (split_get xs ys i x e)

-- a member's place tells its type and its number
member_at : (is : List TypeInfo) (i : ℕ) (x : List ℕ) → slice_get (flat_map members_of is) i ≡ Some x →
    (t : ℕ) × (k : ℕ) × (info : TypeInfo) × (slice_get is t ≡ Some info) × (slice_get (members_of info) k ≡ Some x) × (member_place is t k ≡ i)
member_at [] i x e = cc
member_at (info ∷ is) i x e =
    ⊎_elim (λ h. (0, i, info, refl, h, refl))
    (λ h. let z = member_at is h.0 x h.2 in (suc z.0, z.1, z.2, z.3, z.4, omega (arith, z.5, h.1)))
    (split_get (members_of info) (flat_map members_of is) i x e)

module _ (see : List ℕ → Option Entity) (p : Parts) where
  -- the names from place n on find what stands there
  abbrev FindFrom : ℕ → List (List ℕ) → Type 0
  FindFrom n names = (i : ℕ) (x : List ℕ) → slice_get names i ≡ Some x → (e : Entity) × (see x ≡ Some e) × (place_of p e ≡ n + i)

  from_append : (n m : ℕ) (xs ys : List (List ℕ)) → m ≡ n + length xs → FindFrom n xs → FindFrom m ys → FindFrom n (xs ++ ys)
  from_append n m [] ys q h k i x e = let z = k i x e in (z.0, z.1, omega (arith, z.2, q))
  from_append n m (y ∷ xs) ys q h k zero x e = h zero x e
  from_append n m (y ∷ xs) ys q h k (suc i) x e =
      let z = from_append (suc n) m xs ys (omega (arith, q)) (λ i x e. let a = h (suc i) x e in (a.0, a.1, omega (arith, a.2))) k i x e in
      (z.0, z.1, omega (arith, z.2))

  abbrev type_names : List (List ℕ)
  type_names = map (λ (i : TypeInfo). i.name) p.types

  abbrev member_names : List (List ℕ)
  member_names = flat_map members_of p.types

  abbrev param_names : List (List ℕ)
  param_names = map (λ (q : Param). q.name) p.params

  abbrev function_names : List (List ℕ)
  function_names = map (λ (f : Function). f.name) p.functions

  one_place : (d e : Entity) (n m : ℕ) → place_of p d ≡ n → place_of p e ≡ m → d ≡ e → n ≡ m
  one_place d e n m h k same = sym h ∙ ap (place_of p) same ∙ k

  -- parts whose names find them have different names
  pub names_differ : AreFound see p → AreDifferent (names_of p)
  names_differ h i j x e f =
      let a = all i x e in
      let b = all j x f in
      let places = one_place a.0 b.0 (0 + i) (0 + j) a.2 b.2 (same_get a.0 b.0 (see x) a.1 b.1) in
      omega (arith, places)
    where
      types : FindFrom 0 type_names
      types i x e = let m = under_map (λ (i : TypeInfo). i.name) p.types i x e in (entity.Declared i, subst (λ z. see z ≡ Some (entity.Declared i)) m.2 (h.types i m.0 m.1), omega arith)

      members : FindFrom (length type_names) member_names
      members i x e =
          let m = member_at p.types i x e in
          (entity.Member m.0 m.1, h.members m.0 m.1 m.2 x m.3 m.4, omega (arith, m.5, map_length (λ (i : TypeInfo). i.name) p.types))

      params : FindFrom (length type_names + length member_names) param_names
      params i x e =
          let m = under_map (λ (q : Param). q.name) p.params i x e in
          (entity.Param i, subst (λ z. see z ≡ Some (entity.Param i)) m.2 (h.params i m.0 m.1), omega (arith, map_length (λ (i : TypeInfo). i.name) p.types))

      functions : FindFrom (length type_names + length member_names + length param_names) function_names
      functions i x e =
          let m = under_map (λ (f : Function). f.name) p.functions i x e in
          (entity.Function i, subst (λ z. see z ≡ Some (entity.Function i)) m.2 (h.functions i m.0 m.1), omega (arith, map_length (λ (i : TypeInfo). i.name) p.types, map_length (λ (q : Param). q.name) p.params))

      levels : FindFrom (length type_names + length member_names + length param_names + length function_names) p.level_names
      levels i x e =
          (entity.Level i, h.levels i x e, omega (arith, map_length (λ (i : TypeInfo). i.name) p.types, map_length (λ (q : Param). q.name) p.params, map_length (λ (f : Function). f.name) p.functions))

      all : FindFrom 0 (names_of p)
      all =
          let a = type_names in
          let b = member_names in
          let c = param_names in
          let d = function_names in
          let ab = from_append 0 (length a) a b (omega arith) types members in
          let abc = from_append 0 (length a + length b) (a ++ b) c (omega (arith, length-append a b)) ab params in
          let abcd = from_append 0 (length a + length b + length c) (a ++ b ++ c) d (omega (arith, length-append a b, length-append (a ++ b) c)) abc functions in
          from_append 0 (length a + length b + length c + length d) (a ++ b ++ c ++ d) p.level_names (omega (arith, length-append a b, length-append (a ++ b) c, length-append (a ++ b ++ c) d)) abcd levels
