-- One more name in an index from names to their first places, and what such an index finds.
use Rattle.std.proofs.Common.{◌≡◌, refl, sym, ◌∙◌, ap, subst, arith, ℕ, suc, ◌+◌, List, [], ◌∷◌, ◌++◌, Bool, true, false, Option, Some, None, length, cond}
use Rattle.std.specs.Prelude.{if◌then◌else◌, is_some, map, slice_get, ◌||◌}
use Rattle.std.specs.Map.{lookup}
use Rattle.std.specs.List.{find, list_any, position_from}
use Rattle.std.specs.Option.{option_or}
use Rattle.std.specs.Str.{bytes_eq}
use Rattle.std.specs.declared.vec.Vec.{Vec}
use Rattle.std.proofs.lemmas.Slice.Eq.{bytes_eq-Decides}
use Rattle.indexmap.specs.IndexMap.{insert_entry}
use Rattle.sp_naming.specs.Names.{is_among, IsIndex}

-- Places

from-append : {X : Type 0} (p : X → Bool) (i : ℕ) (xs : List X) (y : X) →
    position_from p i (xs ++ y ∷ []) ≡ option_or (position_from p i xs) (cond (p y) (Some (i + length xs)) None)
from-append p i [] y =
    let e : i ≡ i + 0 = omega arith in
    ap (λ n. cond (p y) (Some n) None) e
from-append {X} p i (x ∷ xs) y =
    let e : (i + 1) + length xs ≡ i + suc (length xs) = omega arith in
    by (p x) (from-append p (i + 1) xs y ∙ ap (λ n. option_or (position_from p (i + 1) xs) (cond (p y) (Some n) None)) e)
  where
    by : (b : Bool) → position_from p (i + 1) (xs ++ y ∷ []) ≡ option_or (position_from p (i + 1) xs) (cond (p y) (Some (i + length (x ∷ xs))) None) →
        cond b (Some i) (position_from p (i + 1) (xs ++ y ∷ [])) ≡ option_or (cond b (Some i) (position_from p (i + 1) xs)) (cond (p y) (Some (i + length (x ∷ xs))) None)
    by true r = refl
    by false r = r

pub from-any : {X : Type 0} (p : X → Bool) (i : ℕ) (xs : List X) → is_some (position_from p i xs) ≡ list_any p xs
from-any p i [] = refl
from-any p i (x ∷ xs) = by (p x) (from-any p (i + 1) xs)
  where
    by : (b : Bool) → is_some (position_from p (i + 1) xs) ≡ list_any p xs → is_some (cond b (Some i) (position_from p (i + 1) xs)) ≡ (b || list_any p xs)
    by true h = refl
    by false h = h

pub from-none : {X : Type 0} (p : X → Bool) (i : ℕ) (xs : List X) → position_from p i xs ≡ None → find p xs ≡ None
from-none p i [] h = refl
from-none p i (x ∷ xs) h = by (λ e. from-none p (i + 1) xs e) (p x) h
  where
    by : (position_from p (i + 1) xs ≡ None → find p xs ≡ None) → (b : Bool) → cond b (Some i) (position_from p (i + 1) xs) ≡ None → cond b (Some x) (find p xs) ≡ None
    by rec true e = cc
    by rec false e = rec e

pub from-some : {X : Type 0} (p : X → Bool) (i : ℕ) (xs : List X) (k : ℕ) → position_from p i xs ≡ Some k → (j : ℕ) × (k ≡ i + j) × (slice_get xs j ≡ find p xs)
from-some p i [] k h = absurd cc
from-some p i (x ∷ xs) k h = by (λ e. from-some p (i + 1) xs k e) (p x) h
  where
    same : (a b : ℕ) → Some a ≡ Some b → a ≡ b
    same a b e = cc

    next : (j : ℕ) × (k ≡ (i + 1) + j) × (slice_get xs j ≡ find p xs) → (j : ℕ) × (k ≡ i + j) × (slice_get (x ∷ xs) j ≡ find p xs)
    next r = (suc r.0, omega (arith, r.1), r.2)

    by : (position_from p (i + 1) xs ≡ Some k → (j : ℕ) × (k ≡ (i + 1) + j) × (slice_get xs j ≡ find p xs)) →
        (b : Bool) → cond b (Some i) (position_from p (i + 1) xs) ≡ Some k → (j : ℕ) × (k ≡ i + j) × (slice_get (x ∷ xs) j ≡ cond b (Some x) (find p xs))
    by rec true e = (0, omega (arith, same i k e), refl)
    by rec false e = next (rec e)

pub from-map : {X Y : Type 0} (p : Y → Bool) (f : X → Y) (i : ℕ) (xs : List X) → position_from p i (map f xs) ≡ position_from (λ x. p (f x)) i xs
from-map p f i [] = refl
from-map p f i (x ∷ xs) = ap (λ o. cond (p (f x)) (Some i) o) (from-map p f (i + 1) xs)

-- An index

-- whether a name is known
pub known_name : (names : List (List ℕ)) (got : List ℕ → Option ℕ) (x : List ℕ) → IsIndex names got → is_some (got x) ≡ is_among names x
known_name names got x h = ap is_some (h x) ∙ from-any (bytes_eq x) 0 names

some_stays : {X : Type 0} (a y : Option X) → is_some a ≡ true → a ≡ option_or a y
some_stays None y h = absurd cc
some_stays (Some a) y h = refl

none_stays : {X : Type 0} (a : Option X) → a ≡ option_or a None
none_stays None = refl
none_stays (Some a) = refl

-- a name that is known already
pub known_again : (names : List (List ℕ)) (got : List ℕ → Option ℕ) (y : List ℕ) → IsIndex names got → is_some (got y) ≡ true → IsIndex (names ++ y ∷ []) got
known_again names got y h k x = by (bytes_eq x y) refl ∙ sym (from-append (bytes_eq x) 0 names y)
  where
    there : is_some (position_from (bytes_eq y) 0 names) ≡ true
    there = ap is_some (sym (h y)) ∙ k

    by : (b : Bool) → bytes_eq x y ≡ b → got x ≡ option_or (position_from (bytes_eq x) 0 names) (cond (bytes_eq x y) (Some (0 + length names)) None)
    by true e =
        let same : x ≡ y = (bytes_eq-Decides x y).0 e in
        h x ∙ some_stays (position_from (bytes_eq x) 0 names) (cond (bytes_eq x y) (Some (0 + length names)) None) (subst (λ z. is_some (position_from (bytes_eq z) 0 names) ≡ true) (sym same) there)
    by false e =
        h x ∙ none_stays (position_from (bytes_eq x) 0 names) ∙ ap (λ b. option_or (position_from (bytes_eq x) 0 names) (cond b (Some (0 + length names)) None)) (sym e)

-- a new name
pub known_new : (names : List (List ℕ)) (old new : List ℕ → Option ℕ) (y : List ℕ) (n : ℕ) → IsIndex names old → is_some (old y) ≡ false → n ≡ length names →
    ((x : List ℕ) → new x ≡ cond (bytes_eq x y) (Some n) (old x)) → IsIndex (names ++ y ∷ []) new
known_new names old new y n h k m u x = u x ∙ by (bytes_eq x y) refl ∙ sym (from-append (bytes_eq x) 0 names y)
  where
    absent : (o : Option ℕ) → is_some o ≡ false → o ≡ None
    absent None e = refl
    absent (Some a) e = absurd cc

    number : n ≡ 0 + length names
    number = omega (arith, m)

    by : (b : Bool) → bytes_eq x y ≡ b → cond b (Some n) (old x) ≡ option_or (position_from (bytes_eq x) 0 names) (cond (bytes_eq x y) (Some (0 + length names)) None)
    by true e =
        let same : x ≡ y = (bytes_eq-Decides x y).0 e in
        let none : position_from (bytes_eq x) 0 names ≡ None = sym (h x) ∙ subst (λ z. old z ≡ None) (sym same) (absent (old y) k) in
        ap Some number ∙ (λ i. option_or (sym none i) (cond (sym e i) (Some (0 + length names)) None))
    by false e =
        h x ∙ none_stays (position_from (bytes_eq x) 0 names) ∙ ap (λ b. option_or (position_from (bytes_eq x) 0 names) (cond b (Some (0 + length names)) None)) (sym e)

-- what an index finds, once a pair is inserted
pub lookup-insert_entry : {Y : Type 0} (x : List ℕ) (es : List (Vec ℕ Y × ℕ)) (key : Vec ℕ Y) (n : ℕ) →
    lookup (λ (k : Vec ℕ Y). bytes_eq x k.items) (insert_entry (λ (a b : Vec ℕ Y). bytes_eq a.items b.items) es key n) ≡ cond (bytes_eq x key.items) (Some n) (lookup (λ (k : Vec ℕ Y). bytes_eq x k.items) es)
lookup-insert_entry x [] key n = refl
lookup-insert_entry {Y} x (e ∷ es) key n = by (lookup-insert_entry x es key n) (bytes_eq key.items e.0.items) refl
  where
    -- the key is there
    there : (b c : Bool) → c ≡ b → cond c (Some n) (lookup (λ (k : Vec ℕ Y). bytes_eq x k.items) es) ≡ cond b (Some n) (cond c (Some e.1) (lookup (λ (k : Vec ℕ Y). bytes_eq x k.items) es))
    there true true h = refl
    there false false h = refl
    there true false h = absurd cc
    there false true h = absurd cc

    -- another key is there
    other : (b c : Bool) → bytes_eq x key.items ≡ b → bytes_eq x e.0.items ≡ c → bytes_eq key.items e.0.items ≡ false →
        cond c (Some e.1) (cond b (Some n) (lookup (λ (k : Vec ℕ Y). bytes_eq x k.items) es)) ≡ cond b (Some n) (cond c (Some e.1) (lookup (λ (k : Vec ℕ Y). bytes_eq x k.items) es))
    other true true h k f =
        let one : x ≡ key.items = (bytes_eq-Decides x key.items).0 h in
        let two : x ≡ e.0.items = (bytes_eq-Decides x e.0.items).0 k in
        let both : bytes_eq key.items e.0.items ≡ true = (bytes_eq-Decides key.items e.0.items).1 (sym one ∙ two) in
        absurd cc
    other true false h k f = refl
    other false true h k f = refl
    other false false h k f = refl

    by : lookup (λ (k : Vec ℕ Y). bytes_eq x k.items) (insert_entry (λ (a b : Vec ℕ Y). bytes_eq a.items b.items) es key n) ≡ cond (bytes_eq x key.items) (Some n) (lookup (λ (k : Vec ℕ Y). bytes_eq x k.items) es) →
        (b : Bool) → bytes_eq key.items e.0.items ≡ b →
        lookup (λ (k : Vec ℕ Y). bytes_eq x k.items) (if b then (e.0, n) ∷ es else e ∷ insert_entry (λ (a b : Vec ℕ Y). bytes_eq a.items b.items) es key n) ≡ cond (bytes_eq x key.items) (Some n) (lookup (λ (k : Vec ℕ Y). bytes_eq x k.items) (e ∷ es))
    by rest true h =
        let same : key.items ≡ e.0.items = (bytes_eq-Decides key.items e.0.items).0 h in
        there (bytes_eq x key.items) (bytes_eq x e.0.items) (ap (bytes_eq x) (sym same))
    by rest false h = ap (λ o. cond (bytes_eq x e.0.items) (Some e.1) o) rest ∙ other (bytes_eq x key.items) (bytes_eq x e.0.items) refl refl h
