-- Lists that are made item by item, and what stands at a place of them.
use Rattle.std.proofs.Common.{◌≡◌, refl, sym, ◌∙◌, ap, subst, arith, ℕ, zero, suc, ◌+◌, ◌<◌, ◌≤◌, List, [], ◌∷◌, ◌++◌, Bool, true, false, Option, Some, None, take, length, get_or, cond}
use Rattle.std.specs.Prelude.{is_some, map, slice_get, slice_index_or, ◌||◌}
use Rattle.std.specs.List.{All, find, flat_map, list_any}
use Rattle.std.proofs.lemmas.List.{take_more}
use Rattle.std.proofs.lemmas.List.Elements.{All-cons, All-nil}
use Rattle.std.proofs.lemmas.Option.{none-some, same_Some}
use Rattle.sp_text.specs.declared.violation.Violation.{Violation}
use Rattle.sp_text.specs.Firsts.{behind}
use Rattle.sp_text.specs.Violations.{first}
use Rattle.sp_naming.proofs.Gathering.{gather_next, next_item}

map_more : {A B : Type 0} (f : A → B) (xs : List A) (x : A) → map f xs ++ f x ∷ [] ≡ map f (xs ++ x ∷ [])
map_more f [] x = refl
map_more f (y ∷ xs) x = ap (λ z. f y ∷ z) (map_more f xs x)

-- one more item that is made
pub mapped : {A B : Type 0} (f : A → B) (xs : List A) (i : ℕ) (x : A) (before after : List B) (y : B) → i < length xs → x ≡ get_or xs i x →
    before ≡ map f (take i xs) → after ≡ before ++ y ∷ [] → y ≡ f x → after ≡ map f (take (i + 1) xs)
mapped f xs i x before after y lt is b a e =
    a ∙ (λ j. b j ++ e j ∷ []) ∙ map_more f (take i xs) x ∙ ap (map f) (next_item xs i x lt is)

-- and the first of what the items break
pub judged : {A : Type 0} (make : A → List Violation) (xs : List A) (i : ℕ) (x : A) (found : Option Violation) → i < length xs → x ≡ get_or xs i x →
    found ≡ first (flat_map make (take i xs) ++ make x) → found ≡ first (flat_map make (take (i + 1) xs))
judged make xs i x found lt is e = e ∙ ap first (gather_next make xs i x lt is)

pub all_map : {A B : Type 0} (P : B → Type 0) (f : A → B) (xs : List A) → ((k : ℕ) (x : A) → slice_get xs k ≡ Some x → P (f x)) → All P (map f xs)
all_map P f [] h = All-nil P
all_map P f (x ∷ xs) h = All-cons P (f x) (map f xs) (h 0 x refl) (all_map P f xs (λ k y e. h (suc k) y e))

pub got_map : {A B : Type 0} (f : A → B) (xs : List A) (k : ℕ) (x : A) → slice_get xs k ≡ Some x → slice_get (map f xs) k ≡ Some (f x)
got_map f [] k x e = absurd (none-some x e)
got_map f (y ∷ ys) zero x e = ap (λ z. Some (f z)) (same_Some y x e)
got_map f (y ∷ ys) (suc k) x e = got_map f ys k x e

pub got_or : {A : Type 0} (xs : List A) (k : ℕ) (x d : A) → slice_get xs k ≡ Some x → slice_index_or xs k d ≡ x
got_or [] k x d e = absurd (none-some x e)
got_or (y ∷ ys) zero x d e = same_Some y x e
got_or (y ∷ ys) (suc k) x d e = got_or ys k x d e

pub all_got : {X : Type 0} (P : X → Type 0) (xs : List X) (k : ℕ) (x : X) → All P xs → slice_get xs k ≡ Some x → P x
all_got P [] k x a e = absurd (none-some x e)
all_got P (y ∷ ys) zero x a e = subst P (same_Some y x e) (a 0 y (omega arith))
all_got P (y ∷ ys) (suc k) x a e = all_got P ys k x (λ j b lt. a (suc j) b (omega (arith, lt))) e

pub short : {A : Type 0} (xs : List A) (k : ℕ) → slice_get xs k ≡ None → length xs ≤ k
short [] k e = omega arith
short (x ∷ xs) zero e = absurd cc
short (x ∷ xs) (suc k) e = omega (arith, short xs k e)

pub length_map : {A B : Type 0} (f : A → B) (xs : List A) → length (map f xs) ≡ length xs
length_map f [] = refl
length_map f (x ∷ xs) = ap suc (length_map f xs)

pub map_twice : {A B C : Type 0} (g : B → C) (f : A → B) (xs : List A) → map g (map f xs) ≡ map (λ x. g (f x)) xs
map_twice g f [] = refl
map_twice g f (x ∷ xs) = ap (λ z. g (f x) ∷ z) (map_twice g f xs)

-- lists in which nothing is broken
pub left_none : (xs ys : List Violation) → xs ++ ys ≡ [] → xs ≡ []
left_none [] ys h = refl
left_none (v ∷ xs) ys h = absurd cc

pub right_none : (xs ys : List Violation) → xs ++ ys ≡ [] → ys ≡ []
right_none [] ys h = h
right_none (v ∷ xs) ys h = absurd cc

pub inner_none : (xs ys : List Violation) → behind xs ys ≡ [] → xs ≡ []
inner_none [] ys h = refl
inner_none (v ∷ xs) ys h = absurd cc

pub own_none : (xs ys : List Violation) → behind xs ys ≡ [] → ys ≡ []
own_none [] ys h = h
own_none (v ∷ xs) ys h = absurd cc

pub each_none : {A : Type 0} (make : A → List Violation) (xs : List A) (k : ℕ) (x : A) → flat_map make xs ≡ [] → slice_get xs k ≡ Some x → make x ≡ []
each_none make [] k x h e = absurd (none-some x e)
each_none make (y ∷ ys) zero x h e = ap make (sym (same_Some y x e)) ∙ left_none (make y) (flat_map make ys) h
each_none make (y ∷ ys) (suc k) x h e = each_none make ys k x (right_none (make y) (flat_map make ys) h) e

-- an item is found exactly where its name is among the names
pub found_any : {A : Type 0} (p : A → Bool) (xs : List A) → is_some (find p xs) ≡ list_any p xs
found_any p [] = refl
found_any {A} p (x ∷ xs) = by (p x) (found_any p xs)
  where
    by : (b : Bool) → is_some (find p xs) ≡ list_any p xs → is_some (cond b (Some x) (find p xs)) ≡ (b || list_any p xs)
    by true h = refl
    by false h = h

pub any_map : {A B : Type 0} (p : B → Bool) (f : A → B) (xs : List A) → list_any p (map f xs) ≡ list_any (λ x. p (f x)) xs
any_map p f [] = refl
any_map p f (x ∷ xs) = ap (λ b. p (f x) || b) (any_map p f xs)

-- one more item, as contracts see it
pub mapped_as : {A B C : Type 0} (g : C → B) (f : A → B) (xs : List A) (i : ℕ) (x : A) (before after : List C) (y : C) → i < length xs → x ≡ get_or xs i x →
    map g before ≡ map f (take i xs) → after ≡ before ++ y ∷ [] → g y ≡ f x → map g after ≡ map f (take (i + 1) xs)
mapped_as g f xs i x before after y lt is b a e =
    ap (map g) a ∙ sym (map_more g before y) ∙ (λ j. b j ++ e j ∷ []) ∙ map_more f (take i xs) x ∙ ap (map f) (next_item xs i x lt is)

-- one more item of the list that is copied
pub copied_as : {B C : Type 0} (g : C → B) (xs : List B) (i : ℕ) (d : B) (before after : List C) (y : C) → i < length xs →
    map g before ≡ take i xs → after ≡ before ++ y ∷ [] → g y ≡ get_or xs i d → map g after ≡ take (i + 1) xs
copied_as g xs i d before after y lt b a e =
    ap (map g) a ∙ sym (map_more g before y) ∙ (λ j. b j ++ e j ∷ []) ∙ sym (take_more xs i d lt)

pub length_at : (xs : List (List (List ℕ))) (k : ℕ) → k < length xs → slice_index_or (map (λ names. length names) xs) k 0 ≡ length (slice_index_or xs k [])
length_at [] k lt = absurd (omega (arith, lt))
length_at (x ∷ xs) zero lt = refl
length_at (x ∷ xs) (suc k) lt = length_at xs k (omega (arith, lt))

-- what each item at a place has, all have
pub each_all : {X : Type 0} (P : X → Type 0) (xs : List X) → ((k : ℕ) (x : X) → slice_get xs k ≡ Some x → P x) → All P xs
each_all P [] h = All-nil P
each_all P (x ∷ xs) h = All-cons P x xs (h 0 x refl) (each_all P xs (λ k y e. h (suc k) y e))

-- the item that an index gives
pub got_at : {A : Type 0} (xs : List A) (k : ℕ) (x : A) → k < length xs → x ≡ get_or xs k x → slice_get xs k ≡ Some x
got_at [] k x lt e = absurd (omega (arith, lt))
got_at (y ∷ ys) zero x lt e = ap Some (sym e)
got_at (y ∷ ys) (suc k) x lt e = got_at ys k x (omega (arith, lt)) e
