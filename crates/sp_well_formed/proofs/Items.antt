-- Items of lists, and lists that are made of parts' items.
use Rattle.std.proofs.Common.{◌≡◌, refl, sym, ◌∙◌, ap, subst, arith, ℕ, zero, suc, ◌+◌, ◌≤◌, ◌<◌, List, [], ◌∷◌, ◌++◌, length, length-append, Option, Some, None, map}
use Rattle.std.specs.Prelude.{nat_lt, slice_get, true}
use Rattle.std.specs.List.{All, flat_map}
use Rattle.std.specs.Option.{option_map}
use Rattle.std.proofs.lemmas.Bool.Decides.{nat_tests}
use Rattle.std.proofs.lemmas.Grind.{flat_map-append}
use Rattle.std.proofs.lemmas.List.Elements.{All-cons, All-nil}
use Rattle.std.proofs.lemmas.Option.{get_or_from_slice_get, slice_get_within}
use Rattle.sp_naming.specs.Numbers.{after, numbered}

-- Items

pub same_item : {X : Type 0} (a b : X) → Some a ≡ Some b → a ≡ b
same_item a b e = cc

pub same_get : {X : Type 0} (a b : X) (o : Option X) → o ≡ Some a → o ≡ Some b → a ≡ b
same_get a b o h k = cc

pub no_item : {X C : Type 0} (k : ℕ) (x : X) → slice_get [] k ≡ Some x → C
no_item {X} {C} k x e = absurd (none k e)
  where
    none : (k : ℕ) → slice_get [] k ≡ Some x → ⊥
    none k e = cc

pub not_none : {X C : Type 0} (x : X) → None ≡ Some x → C
not_none x e = absurd cc

pub below : (k n : ℕ) → k < n → nat_lt k n ≡ true
below k n h = grind (arith, nat_tests)

pub item_at : {X : Type 0} (xs : List X) (k : ℕ) → k < length xs → (x : X) × (slice_get xs k ≡ Some x)
item_at [] k lt = absurd (omega (arith, lt))
item_at (x ∷ xs) zero lt = (x, refl)
item_at (x ∷ xs) (suc k) lt = item_at xs k (omega (arith, lt))

past_end : {X : Type 0} (xs : List X) (k : ℕ) → slice_get xs k ≡ None → length xs ≤ k
past_end [] k e = omega arith
past_end (x ∷ xs) zero e = absurd cc
past_end (x ∷ xs) (suc k) e = let r = past_end xs k e in omega (arith, r)

-- where no item stands at a place, there are no more items than that
pub few : {X : Type 0} (most : ℕ) (xs : List X) → ((x : X) → slice_get xs most ≡ Some x → ⊥) → length xs ≤ most
few {X} most xs none = by (slice_get xs most) refl
  where
    by : (o : Option X) → slice_get xs most ≡ o → length xs ≤ most
    by None e = past_end xs most e
    by (Some x) e = absurd (none x e)

pub under_map : {A B : Type 0} (v : A → B) (xs : List A) (k : ℕ) (b : B) → slice_get (map v xs) k ≡ Some b → (a : A) × (slice_get xs k ≡ Some a) × (v a ≡ b)
under_map v [] k b e = no_item k b e
under_map v (x ∷ xs) zero b e = (x, refl, same_item (v x) b e)
under_map v (x ∷ xs) (suc k) b e = under_map v xs k b e

pub map_under : {A B : Type 0} (v : A → B) (xs : List A) (k : ℕ) (a : A) → slice_get xs k ≡ Some a → slice_get (map v xs) k ≡ Some (v a)
map_under v [] k a e = no_item k a e
map_under v (x ∷ xs) zero a e = ap (λ z. Some (v z)) (same_item x a e)
map_under v (x ∷ xs) (suc k) a e = map_under v xs k a e

pub map_length : {A B : Type 0} (v : A → B) (xs : List A) → length (map v xs) ≡ length xs
map_length v [] = refl
map_length v (x ∷ xs) = ap suc (map_length v xs)

map_twice : {A B C : Type 0} (v : B → C) (f : A → B) (xs : List A) → map v (map f xs) ≡ map (λ x. v (f x)) xs
map_twice v f [] = refl
map_twice v f (x ∷ xs) = ap (λ z. v (f x) ∷ z) (map_twice v f xs)

map_both : {A B : Type 0} (v : A → B) (xs ys : List A) → map v (xs ++ ys) ≡ map v xs ++ map v ys
map_both v [] ys = refl
map_both v (x ∷ xs) ys = ap (λ z. v x ∷ z) (map_both v xs ys)

pub under_option : {A B : Type 0} (v : A → B) (o : Option A) (b : B) → option_map v o ≡ Some b → (a : A) × (o ≡ Some a) × (v a ≡ b)
under_option v None b e = absurd cc
under_option v (Some a) b e = (a, refl, same_item (v a) b e)

-- what is said of all items is said of each, and the other way
pub of_all : {X : Type 0} (P : X → Type 0) (xs : List X) → All P xs → (k : ℕ) (x : X) → slice_get xs k ≡ Some x → P x
of_all P xs h k x e = subst P (get_or_from_slice_get xs k x x e) (h k x (slice_get_within xs k x e))

pub all_of : {X : Type 0} (P : X → Type 0) (xs : List X) → ((k : ℕ) (x : X) → slice_get xs k ≡ Some x → P x) → All P xs
all_of P [] h = All-nil P
all_of P (x ∷ xs) h = All-cons P x xs (h 0 x refl) (all_of P xs (λ k y e. h (suc k) y e))

-- Lists of nothing

pub left_nothing : {X : Type 0} (xs ys : List X) → xs ++ ys ≡ [] → xs ≡ []
left_nothing [] ys h = refl
left_nothing (x ∷ xs) ys h = absurd cc

pub right_nothing : {X : Type 0} (xs ys : List X) → xs ++ ys ≡ [] → ys ≡ []
right_nothing [] ys h = h
right_nothing (x ∷ xs) ys h = absurd cc

pub makes_nothing : {X B : Type 0} (f : X → List B) (xs : List X) → flat_map f xs ≡ [] → (k : ℕ) (x : X) → slice_get xs k ≡ Some x → f x ≡ []
makes_nothing f [] h k x e = no_item k x e
makes_nothing f (y ∷ xs) h zero x e = subst (λ z. f z ≡ []) (same_item y x e) (left_nothing (f y) (flat_map f xs) h)
makes_nothing f (y ∷ xs) h (suc k) x e = makes_nothing f xs (right_nothing (f y) (flat_map f xs) h) k x e

pub map_nothing : {A B : Type 0} (v : A → B) (xs : List A) → map v xs ≡ [] → xs ≡ []
map_nothing v [] h = refl
map_nothing v (x ∷ xs) h = absurd cc

-- Parts and their items

-- an item of a part, with the part's number
pub record Placed (M A : Type 0) : Type 0 where
  pub number : ℕ
  pub part : M
  pub item : A

abbrev place : {M A : Type 0} → ℕ → M → A → Placed M A
place n m a = record { number = n; part = m; item = a }

-- the items of parts, of which the first has number n
abbrev pub placed : {M A : Type 0} → (M → List A) → ℕ → List M → List (Placed M A)
placed its n [] = []
placed its n (m ∷ ms) = map (place n m) (its m) ++ placed its (after n) ms

-- what each numbered part makes of its items
pub made_placed : {M A B : Type 0} (its : M → List A) (v : ℕ → M → A → B) (make : ℕ → M → List B) → ((n : ℕ) (m : M) → make n m ≡ map (v n m) (its m)) →
    (n : ℕ) (ms : List M) → numbered make n ms ≡ map (λ (t : Placed M A). v t.number t.part t.item) (placed its n ms)
made_placed its v make is n [] = refl
made_placed {M} {A} {B} its v make is n (m ∷ ms) =
    let w : Placed M A → B = λ t. v t.number t.part t.item in
    (λ i. (is n m ∙ sym (map_twice w (place n m) (its m))) i ++ made_placed its v make is (after n) ms i)
    ∙ sym (map_both w (map (place n m) (its m)) (placed its (after n) ms))

-- what is said of each numbered part
abbrev pub OfParts : {M : Type 0} → (ℕ → M → Type 0) → ℕ → List M → Type 0
OfParts P n [] = Unit {0}
OfParts P n (m ∷ ms) = P n m × OfParts P (after n) ms

pub nothing_of_parts : {M B : Type 0} (make : ℕ → M → List B) (n : ℕ) (ms : List M) → numbered make n ms ≡ [] → OfParts (λ k m. make k m ≡ []) n ms
nothing_of_parts make n [] h = tt
nothing_of_parts make n (m ∷ ms) h =
    (left_nothing (make n m) (numbered make (after n) ms) h, nothing_of_parts make (after n) ms (right_nothing (make n m) (numbered make (after n) ms) h))

at_either : {X : Type 0} (P : X → Type 0) (xs ys : List X) → ((k : ℕ) (x : X) → slice_get xs k ≡ Some x → P x) → ((k : ℕ) (x : X) → slice_get ys k ≡ Some x → P x) →
    (k : ℕ) (x : X) → slice_get (xs ++ ys) k ≡ Some x → P x
at_either P [] ys f g k x e = g k x e
at_either P (y ∷ xs) ys f g zero x e = f 0 x e
at_either P (y ∷ xs) ys f g (suc k) x e = at_either P xs ys (λ j z. f (suc j) z) g k x e

-- what is said of the items of each part is said of all
pub of_placed : {M A : Type 0} (its : M → List A) (P : ℕ → M → Type 0) (Q : Placed M A → Type 0) →
    ((n : ℕ) (m : M) → P n m → (j : ℕ) (a : A) → slice_get (its m) j ≡ Some a → Q (record { number = n; part = m; item = a })) →
    (n : ℕ) (ms : List M) → OfParts P n ms → (k : ℕ) (t : Placed M A) → slice_get (placed its n ms) k ≡ Some t → Q t
of_placed its P Q each n [] h k t e = no_item k t e
of_placed its P Q each n (m ∷ ms) h k t e =
    at_either Q (map (place n m) (its m)) (placed its (after n) ms)
    (λ j u d. let r = under_map (place n m) (its m) j u d in subst Q r.2 (each n m h.0 j r.0 r.1))
    (λ j u d. of_placed its P Q each (after n) ms h.1 j u d) k t e

-- lengths of what is made of parts
pub flat_length : {A B : Type 0} (f : A → List B) (xs ys : List A) → length (flat_map f (xs ++ ys)) ≡ length (flat_map f xs) + length (flat_map f ys)
flat_length f xs ys = ap length (flat_map-append f xs ys) ∙ length-append (flat_map f xs) (flat_map f ys)
