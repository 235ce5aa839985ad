-- Where no name is declared twice, each declaration is what its name stands for, and no two have one name. For all that asks what
-- names stand for.
use Rattle.std.proofs.Common.{◌≡◌, refl, sym, ◌∙◌, ap, subst, arith, ℕ, zero, suc, ◌+◌, List, [], ◌∷◌, ◌++◌, Bool, true, false, Option, Some, None, length, length-append, append_assoc, cond}
use Rattle.std.specs.Prelude.{is_some, map, slice_get}
use Rattle.std.specs.List.{position_from}
use Rattle.std.specs.Option.{option_or}
use Rattle.std.specs.Str.{bytes_eq}
use Rattle.std.proofs.lemmas.Slice.Eq.{bytes_eq-Decides}
use Rattle.sp_text.specs.declared.fault.Span.{Span}
use Rattle.sp_text.specs.declared.violation.FileViolation.{FileViolation}
use Rattle.sp_text.specs.Violations.{in_file}
use Rattle.sp_naming.specs.declared.declaration.Declaration.{Declaration}
use Rattle.sp_naming.specs.Names.{is_among, name_of, named, repeat_rule, repeated}
use Rattle.sp_naming.proofs.Indexes.{from-any, from-map, from-some}

places-append : {X : Type 0} (p : X → Bool) (i : ℕ) (xs ys : List X) → position_from p i (xs ++ ys) ≡ option_or (position_from p i xs) (position_from p (i + length xs) ys)
places-append p i [] ys =
    let e : i ≡ i + 0 = omega arith in
    ap (λ n. position_from p n ys) e
places-append {X} p i (x ∷ xs) ys =
    let e : (i + 1) + length xs ≡ i + suc (length xs) = omega arith in
    by (p x) (places-append p (i + 1) xs ys ∙ ap (λ n. option_or (position_from p (i + 1) xs) (position_from p n ys)) e)
  where
    by : (b : Bool) → position_from p (i + 1) (xs ++ ys) ≡ option_or (position_from p (i + 1) xs) (position_from p (i + length (x ∷ xs)) ys) →
        cond b (Some i) (position_from p (i + 1) (xs ++ ys)) ≡ option_or (cond b (Some i) (position_from p (i + 1) xs)) (position_from p (i + length (x ∷ xs)) ys)
    by true r = refl
    by false r = r

names-append : {X Y : Type 0} (f : X → Y) (xs ys : List X) → map f (xs ++ ys) ≡ map f xs ++ map f ys
names-append f [] ys = refl
names-append f (x ∷ xs) ys = ap (λ z. f x ∷ z) (names-append f xs ys)

names-length : {X Y : Type 0} (f : X → Y) (xs : List X) → length (map f xs) ≡ length xs
names-length f [] = refl
names-length f (x ∷ xs) = ap suc (names-length f xs)

left_none : (xs ys : List FileViolation) → xs ++ ys ≡ [] → xs ≡ []
left_none [] ys h = refl
left_none (f ∷ xs) ys h = absurd cc

right_none : (xs ys : List FileViolation) → xs ++ ys ≡ [] → ys ≡ []
right_none [] ys h = h
right_none (f ∷ xs) ys h = absurd cc

new_name : (f : ℕ) (p : Span) (known : Bool) → in_file f (repeat_rule known p) ≡ [] → known ≡ false
new_name f p true h = absurd cc
new_name f p false h = refl

no_place : (o : Option ℕ) → is_some o ≡ false → o ≡ None
no_place None h = refl
no_place (Some k) h = absurd cc

same_some : {X : Type 0} (a b : X) → Some a ≡ Some b → a ≡ b
same_some a b e = cc

found_from : (before ds : List Declaration) → repeated before ds ≡ [] → (k : ℕ) (d : Declaration) → slice_get ds k ≡ Some d →
    position_from (bytes_eq d.name) 0 (map name_of (before ++ ds)) ≡ Some (length before + k)
found_from before [] h k d e = absurd cc
found_from before (c ∷ ds) h zero d e =
    let r = in_file c.file (repeat_rule (is_among (map name_of before) c.name) c.span) in
    let same : c ≡ d = same_some c d e in
    let new : is_among (map name_of before) c.name ≡ false = new_name c.file c.span (is_among (map name_of before) c.name) (left_none r (repeated (before ++ c ∷ []) ds) h) in
    let none : position_from (bytes_eq c.name) 0 (map name_of before) ≡ None = no_place (position_from (bytes_eq c.name) 0 (map name_of before)) (from-any (bytes_eq c.name) 0 (map name_of before) ∙ new) in
    let here : bytes_eq c.name c.name ≡ true = (bytes_eq-Decides c.name c.name).1 refl in
    let count : 0 + length (map name_of before) ≡ length before + 0 = omega (arith, names-length name_of before) in
    subst (λ z. position_from (bytes_eq z.name) 0 (map name_of (before ++ c ∷ ds)) ≡ Some (length before + 0)) same
    (ap (position_from (bytes_eq c.name) 0) (names-append name_of before (c ∷ ds))
    ∙ places-append (bytes_eq c.name) 0 (map name_of before) (c.name ∷ map name_of ds)
    ∙ (λ i. option_or (none i) (cond (here i) (Some (count i)) (position_from (bytes_eq c.name) (0 + length (map name_of before) + 1) (map name_of ds)))))
found_from before (c ∷ ds) h (suc k) d e =
    let r = in_file c.file (repeat_rule (is_among (map name_of before) c.name) c.span) in
    let rest = found_from (before ++ c ∷ []) ds (right_none r (repeated (before ++ c ∷ []) ds) h) k d e in
    let count : length (before ++ c ∷ []) + k ≡ length before + suc k = omega (arith, length-append before (c ∷ [])) in
    ap (λ z. position_from (bytes_eq d.name) 0 (map name_of z)) (sym (append_assoc before (c ∷ []) ds)) ∙ rest ∙ ap Some count

-- each declaration is what its name stands for
pub found : (ds : List Declaration) → repeated [] ds ≡ [] → (k : ℕ) (d : Declaration) → slice_get ds k ≡ Some d → named ds d.name ≡ Some d
found ds h k d e =
    let place = found_from [] ds h k d e in
    let r = from-some (λ z. bytes_eq d.name z.name) 0 ds (0 + k) (sym (from-map (bytes_eq d.name) name_of 0 ds) ∙ place) in
    let n : r.0 ≡ k = omega (arith, r.1) in
    sym r.2 ∙ ap (slice_get ds) n ∙ e

-- no two declarations have one name
pub names_differ : (ds : List Declaration) → repeated [] ds ≡ [] → (j k : ℕ) (d e : Declaration) → slice_get ds j ≡ Some d → slice_get ds k ≡ Some e → d.name ≡ e.name → j ≡ k
names_differ ds h j k d e m n same =
    let one = found_from [] ds h j d m in
    let two = found_from [] ds h k e n in
    let places : 0 + j ≡ 0 + k = same_some (0 + j) (0 + k) (sym one ∙ ap (λ z. position_from (bytes_eq z) 0 (map name_of ds)) same ∙ two) in
    omega (arith, places)

-- what a name stands for is declared, under that name
pub declared : (ds : List Declaration) (x : List ℕ) (d : Declaration) → named ds x ≡ Some d → (k : ℕ) × (slice_get ds k ≡ Some d) × (d.name ≡ x)
declared [] x d h = absurd cc
declared (c ∷ ds) x d h = by (λ i. declared ds x d i) (bytes_eq x c.name) refl h
  where
    by : (named ds x ≡ Some d → (k : ℕ) × (slice_get ds k ≡ Some d) × (d.name ≡ x)) →
        (b : Bool) → bytes_eq x c.name ≡ b → cond b (Some c) (named ds x) ≡ Some d → (k : ℕ) × (slice_get (c ∷ ds) k ≡ Some d) × (d.name ≡ x)
    by rec true e i = (0, i, ap (λ z. z.name) (sym (same_some c d i)) ∙ sym ((bytes_eq-Decides x c.name).0 e))
    by rec false e i = let r = rec i in (suc r.0, r.1, r.2)
