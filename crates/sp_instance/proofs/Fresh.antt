-- Lists of keys in which none stands twice: where no key is broken as one that an earlier one is.
use Rattle.std.proofs.Common.{◌≡◌, refl, sym, ◌∙◌, ap, subst, arith, true≢false, ℕ, zero, suc, ◌+◌, List, [], ◌∷◌, ◌++◌, Bool, true, false, Option, Some, length}
use Rattle.std.specs.Prelude.{map, slice_get, ◌||◌}
use Rattle.std.specs.List.{flat_map, list_any}
use Rattle.std.specs.Str.{bytes_eq}
use Rattle.std.proofs.lemmas.Option.{none-some, same_Some}
use Rattle.std.proofs.lemmas.Slice.Eq.{bytes_eq-Decides}
use Rattle.sp_text.specs.declared.fault.Span.{Span}
use Rattle.sp_values.specs.Identity.{same_values, same_values-Decides}
use Rattle.sp_values.specs.declared.value.Value.{Value}
use Rattle.sp_tree.specs.declared.names.Ident.{Ident}
use Rattle.sp_naming.specs.Names.{is_among, repeat_rule, repeated_names}
use Rattle.sp_core.specs.WellFormed.{AreDifferent}
use Rattle.sp_instance.specs.Heads.{names_in}
use Rattle.sp_instance.specs.Tables.{RowText, is_one_of, repeat_broken, row_span, rows_repeated, with_key}
use Rattle.sp_instance.proofs.Lists.{left_none, right_none}

-- each key is none of those before it
abbrev pub Fresh : {K : Type 0} → (K → K → Bool) → List K → List K → Type 0
Fresh eq before [] = Unit {0}
Fresh eq before (k ∷ ks) = (list_any (eq k) before ≡ false) × Fresh eq (before ++ k ∷ []) ks

any_left : {K : Type 0} (p : K → Bool) (xs ys : List K) → list_any p xs ≡ true → list_any p (xs ++ ys) ≡ true
any_left p [] ys h = absurd cc
any_left p (x ∷ xs) ys h = by (λ e. any_left p xs ys e) (p x) h
  where
    by : (list_any p xs ≡ true → list_any p (xs ++ ys) ≡ true) → (b : Bool) → (b || list_any p xs) ≡ true → (b || list_any p (xs ++ ys)) ≡ true
    by rec true e = refl
    by rec false e = rec e

any_last : {K : Type 0} (p : K → Bool) (xs : List K) (x : K) → p x ≡ true → list_any p (xs ++ x ∷ []) ≡ true
any_last p [] x h = ap (λ b. b || false) h
any_last p (y ∷ xs) x h = by (p y) (any_last p xs x h)
  where
    by : (b : Bool) → list_any p (xs ++ x ∷ []) ≡ true → (b || list_any p (xs ++ x ∷ [])) ≡ true
    by true e = refl
    by false e = e

not_later : {K : Type 0} (eq : K → K → Bool) (before ks : List K) → Fresh eq before ks → (j : ℕ) (k : K) → list_any (eq k) before ≡ true → slice_get ks j ≡ Some k → ⊥
not_later eq before [] f j k a e = none-some k e
not_later eq before (y ∷ ys) f zero k a e = true≢false (sym a ∙ ap (λ z. list_any (eq z) before) (sym (same_Some y k e)) ∙ f.0)
not_later eq before (y ∷ ys) f (suc j) k a e = not_later eq (before ++ y ∷ []) ys f.1 j k (any_left (eq k) before (y ∷ []) a) e

-- so no key stands twice
pub distinct : {K : Type 0} (eq : K → K → Bool) → ((k : K) → eq k k ≡ true) → (before ks : List K) → Fresh eq before ks →
    (i j : ℕ) (k : K) → slice_get ks i ≡ Some k → slice_get ks j ≡ Some k → i ≡ j
distinct eq same before [] f i j k d e = absurd (none-some k d)
distinct eq same before (y ∷ ys) f zero zero k d e = refl
distinct eq same before (y ∷ ys) f zero (suc j) k d e =
    let s : y ≡ k = same_Some y k d in
    absurd (not_later eq (before ++ y ∷ []) ys f.1 j k (any_last (eq k) before y (ap (eq k) s ∙ same k)) e)
distinct eq same before (y ∷ ys) f (suc i) zero k d e =
    let s : y ≡ k = same_Some y k e in
    absurd (not_later eq (before ++ y ∷ []) ys f.1 i k (any_last (eq k) before y (ap (eq k) s ∙ same k)) d)
distinct eq same before (y ∷ ys) f (suc i) (suc j) k d e = ap suc (distinct eq same (before ++ y ∷ []) ys f.1 i j k d e)

-- Names

new_name : (known : Bool) (p : Span) → repeat_rule known p ≡ [] → known ≡ false
new_name true p h = absurd cc
new_name false p h = refl

names_fresh : (before : List (List ℕ)) (xs : List Ident) → repeated_names before xs ≡ [] → Fresh bytes_eq before (names_in xs)
names_fresh before [] h = tt
names_fresh before (x ∷ xs) h = (
  new_name (is_among before x.name) x.span (left_none (repeat_rule (is_among before x.name) x.span) (repeated_names (before ++ x.name ∷ []) xs) h),
  names_fresh (before ++ x.name ∷ []) xs (right_none (repeat_rule (is_among before x.name) x.span) (repeated_names (before ++ x.name ∷ []) xs) h),
)

-- names of which none is repeated are different
pub names_different : (xs : List Ident) → repeated_names [] xs ≡ [] → AreDifferent (names_in xs)
names_different xs h = distinct bytes_eq (λ k. (bytes_eq-Decides k k).1 refl) [] (names_in xs) (names_fresh [] xs h)

-- Rows

rows_fresh : (key : RowText → Option (List Value)) (f : RowText → List Value × Value) (before : List (List Value)) (rs : List RowText) →
    ((k : ℕ) (r : RowText) → slice_get rs k ≡ Some r → key r ≡ Some (f r).0) → rows_repeated key before rs ≡ [] → Fresh same_values before (map (λ r. r.0) (map f rs))
rows_fresh key f before [] keyed h = tt
rows_fresh key f before (r ∷ rs) keyed h =
    let e : key r ≡ Some (f r).0 = keyed 0 r refl in
    let a = left_none (repeat_broken before (key r) (row_span r)) (rows_repeated key (with_key before (key r)) rs) h in
    let b = right_none (repeat_broken before (key r) (row_span r)) (rows_repeated key (with_key before (key r)) rs) h in (
      new_name (is_one_of before (f r).0) (row_span r) (ap (λ o. repeat_broken before o (row_span r)) (sym e) ∙ a),
      rows_fresh key f (before ++ (f r).0 ∷ []) rs (λ k q g. keyed (suc k) q g) (ap (λ o. rows_repeated key (with_key before o) rs) (sym e) ∙ b),
    )

-- rows of which none is repeated have different arguments
pub rows_different : (key : RowText → Option (List Value)) (f : RowText → List Value × Value) (rs : List RowText) →
    ((k : ℕ) (r : RowText) → slice_get rs k ≡ Some r → key r ≡ Some (f r).0) → rows_repeated key [] rs ≡ [] →
    (i j : ℕ) (a : List Value) → slice_get (map (λ r. r.0) (map f rs)) i ≡ Some a → slice_get (map (λ r. r.0) (map f rs)) j ≡ Some a → i ≡ j
rows_different key f rs keyed h = distinct same_values (λ k. (same_values-Decides k k).1 refl) [] (map (λ r. r.0) (map f rs)) (rows_fresh key f [] rs keyed h)

-- Parts of lists

got_left : {A : Type 0} (xs ys : List A) (i : ℕ) (x : A) → slice_get xs i ≡ Some x → slice_get (xs ++ ys) i ≡ Some x
got_left [] ys i x e = absurd (none-some x e)
got_left (y ∷ xs) ys zero x e = e
got_left (y ∷ xs) ys (suc i) x e = got_left xs ys i x e

got_right : {A : Type 0} (xs ys : List A) (i : ℕ) (x : A) → slice_get ys i ≡ Some x → slice_get (xs ++ ys) (length xs + i) ≡ Some x
got_right [] ys i x e =
    let n : 0 + i ≡ i = omega arith in
    ap (slice_get ys) n ∙ e
got_right (y ∷ xs) ys i x e =
    let n : suc (length xs) + i ≡ suc (length xs + i) = omega arith in
    ap (slice_get (y ∷ xs ++ ys)) n ∙ got_right xs ys i x e

pub different_left : (xs ys : List (List ℕ)) → AreDifferent (xs ++ ys) → AreDifferent xs
different_left xs ys h i j n d e = h i j n (got_left xs ys i n d) (got_left xs ys j n e)

pub different_right : (xs ys : List (List ℕ)) → AreDifferent (xs ++ ys) → AreDifferent ys
different_right xs ys h i j n d e =
    let s : length xs + i ≡ length xs + j = h (length xs + i) (length xs + j) n (got_right xs ys i n d) (got_right xs ys j n e) in
    omega (arith, s)

pub different_each : {A : Type 0} (f : A → List (List ℕ)) (xs : List A) (k : ℕ) (x : A) → AreDifferent (flat_map f xs) → slice_get xs k ≡ Some x → AreDifferent (f x)
different_each f [] k x h e = absurd (none-some x e)
different_each f (y ∷ ys) zero x h e = subst (λ z. AreDifferent (f z)) (same_Some y x e) (different_left (f y) (flat_map f ys) h)
different_each f (y ∷ ys) (suc k) x h e = different_each f ys k x (different_right (f y) (flat_map f ys) h) e
