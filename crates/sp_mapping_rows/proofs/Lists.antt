-- Lists that are made item by item, and the first of what items break.
use Rattle.std.proofs.Common.{◌≡◌, refl, ◌∙◌, ap, ℕ, zero, suc, ◌+◌, ◌<◌, List, [], ◌∷◌, ◌++◌, Option, Some, None, take, length, get_or}
use Rattle.std.specs.Prelude.{map, slice_get, slice_index_or}
use Rattle.std.specs.List.{flat_map}
use Rattle.sp_text.specs.declared.violation.Violation.{Violation}
use Rattle.sp_text.specs.Violations.{first}
use Rattle.sp_naming.proofs.Gathering.{gather_next, next_item}

map_more : {A B : Type 0} (f : A → B) (xs : List A) (x : A) → map f xs ++ f x ∷ [] ≡ map f (xs ++ x ∷ [])
map_more f [] x = refl
map_more f (y ∷ xs) x = ap (λ z. f y ∷ z) (map_more f xs x)

-- one more item that is made
pub mapped : {A B : Type 0} (f : A → B) (xs : List A) (i : ℕ) (x : A) (before after : List B) (y : B) → i < length xs → x ≡ get_or xs i x →
    before ≡ map f (take i xs) → after ≡ before ++ y ∷ [] → y ≡ f x → after ≡ map f (take (i + 1) xs)
mapped f xs i x before after y lt is b a e =
    a ∙ (λ j. b j ++ e j ∷ []) ∙ map_more f (take i xs) x ∙ ap (map f) (next_item xs i x lt is)

-- and the first of what the items break
pub judged : {A : Type 0} (make : A → List Violation) (xs : List A) (i : ℕ) (x : A) (found : Option Violation) → i < length xs → x ≡ get_or xs i x →
    found ≡ first (flat_map make (take i xs) ++ make x) → found ≡ first (flat_map make (take (i + 1) xs))
judged make xs i x found lt is e = e ∙ ap first (gather_next make xs i x lt is)

-- the item at a place of a list, or another one
pub index_none : {A : Type 0} (xs : List A) (k : ℕ) (d : A) → slice_get xs k ≡ None → d ≡ slice_index_or xs k d
index_none [] k d e = refl
index_none (x ∷ xs) zero d e = absurd cc
index_none (x ∷ xs) (suc k) d e = index_none xs k d e

pub index_some : {A : Type 0} (xs : List A) (k : ℕ) (d x : A) → slice_get xs k ≡ Some x → x ≡ slice_index_or xs k d
index_some [] k d x e = absurd cc
index_some (y ∷ ys) zero d x e = cc
index_some (y ∷ ys) (suc k) d x e = index_some ys k d x e

pub length_map : {A B : Type 0} (f : A → B) (xs : List A) → length (map f xs) ≡ length xs
length_map f [] = refl
length_map f (x ∷ xs) = ap suc (length_map f xs)
