-- Rows whose arguments earlier rows have, row by row; sets of arguments; items found by an index of their names.
use Rattle.std.proofs.Common.{◌≡◌, refl, sym, ◌∙◌, ap, ℕ, List, [], ◌∷◌, ◌++◌, Bool, true, false, Option, Some, None, append_assoc, arith, cond, true≢false}
use Rattle.std.specs.Prelude.{is_some, map, slice_get, ◌||◌}
use Rattle.std.specs.List.{list_any, position_from}
use Rattle.std.specs.Map.{lookup}
use Rattle.std.specs.Str.{bytes_eq}
use Rattle.std.proofs.lemmas.List.{append-nil}
use Rattle.sp_text.specs.declared.fault.Span.{Span}
use Rattle.sp_text.specs.declared.violation.Violation.{Violation}
use Rattle.sp_text.specs.Violations.{first, sooner}
use Rattle.sp_text.proofs.Firsts.{first_by_none}
use Rattle.indexmap.specs.IndexMap.{insert_entry}
use Rattle.sp_values.specs.Identity.{same_values, same_values-Decides, same_values_equivalence}
use Rattle.sp_values.specs.declared.value.Value.{Value}
use Rattle.sp_tree.specs.declared.names.Ident.{Ident}
use Rattle.sp_instance.specs.Words.{place_of}
use Rattle.sp_instance.specs.Heads.{ident_name, item_named, names_in}
use Rattle.sp_naming.specs.Names.{repeat_rule}
use Rattle.sp_instance.specs.Tables.{RowText, have_arguments, is_one_of, keys_after, repeat_broken, row_span, rows_repeated, where_fine, with_key}
use Rattle.sp_instance.proofs.Indexes.{from-map, from-none, from-some}
use Rattle.sp_instance.proofs.Judged.{nothing}
use Rattle.sp_instance.proofs.Lists.{left_none, right_none}

-- Rows

-- the arguments of one more row
pub keys_more : (key : RowText → Option (List Value)) (before : List (List Value)) (rs : List RowText) (r : RowText) →
    keys_after key before (rs ++ r ∷ []) ≡ with_key (keys_after key before rs) (key r)
keys_more key before [] r = refl
keys_more key before (q ∷ rs) r = keys_more key (with_key before (key q)) rs r

-- and whether an earlier row has them
pub rows_more : (key : RowText → Option (List Value)) (before : List (List Value)) (rs : List RowText) (r : RowText) →
    rows_repeated key before rs ++ repeat_broken (keys_after key before rs) (key r) (row_span r) ≡ rows_repeated key before (rs ++ r ∷ [])
rows_more key before [] r = sym (append-nil (repeat_broken before (key r) (row_span r)))
rows_more key before (q ∷ rs) r =
    append_assoc (repeat_broken before (key q) (row_span q)) (rows_repeated key (with_key before (key q)) rs) (repeat_broken (keys_after key (with_key before (key q)) rs) (key r) (row_span r))
    ∙ ap (λ z. repeat_broken before (key q) (row_span q) ++ z) (rows_more key (with_key before (key q)) rs r)

-- the arguments of a row that breaks nothing, and of one that breaks something
pub fine_some : (vs : List Violation) (a : List Value) → first vs ≡ None → Some a ≡ where_fine vs a
fine_some vs a h = ap (λ z. where_fine z a) (sym (first_by_none sooner vs h))

pub fine_none : (vs : List Violation) (a : List Value) (v : Violation) → first vs ≡ Some v → None ≡ where_fine vs a
fine_none [] a v h = absurd cc
fine_none (w ∷ vs) a v h = refl

-- Sets

any_more : {K : Type 0} (p : K → Bool) (xs : List K) (x : K) → list_any p (xs ++ x ∷ []) ≡ (list_any p xs || p x)
any_more p [] x = by (p x)
  where
    by : (b : Bool) → (b || false) ≡ (false || b)
    by true = refl
    by false = refl
any_more p (y ∷ xs) x = by (p y) (any_more p xs x)
  where
    by : (b : Bool) → list_any p (xs ++ x ∷ []) ≡ (list_any p xs || p x) → (b || list_any p (xs ++ x ∷ [])) ≡ ((b || list_any p xs) || p x)
    by true h = refl
    by false h = h

or_true : (b : Bool) → (b || true) ≡ true
or_true true = refl
or_true false = refl

or_false : (b : Bool) → (b || false) ≡ b
or_false true = refl
or_false false = refl

-- one more list of arguments
set_more : (before : List (List Value)) (args a : List Value) (x : Value) (old : Option Value) → is_some old ≡ is_one_of before a →
    is_some (cond (same_values args a) (Some x) old) ≡ is_one_of (before ++ args ∷ []) a
set_more before args a x old h =
    by (same_values args a) refl ∙ ap (λ z. is_one_of before a || z) (same_values_equivalence.symm args a) ∙ sym (any_more (same_values a) before args)
  where
    by : (b : Bool) → same_values args a ≡ b → is_some (cond (same_values args a) (Some x) old) ≡ (is_one_of before a || same_values args a)
    by true e = (λ i. is_some (cond (e i) (Some x) old)) ∙ sym (or_true (is_one_of before a)) ∙ ap (λ z. is_one_of before a || z) (sym e)
    by false e = (λ i. is_some (cond (e i) (Some x) old)) ∙ h ∙ sym (or_false (is_one_of before a)) ∙ ap (λ z. is_one_of before a || z) (sym e)

-- Rows of a table

abbrev pub Rows : Type 0
Rows = List (List Value × Value)

-- a test that is made twice, and two that don't both hold
twice : (x y : Value) (o : Option Value) (b : Bool) → cond b (Some x) o ≡ cond b (Some x) (cond b (Some y) o)
twice x y o true = refl
twice x y o false = refl

swapped : (x y : Value) (o : Option Value) (b d : Bool) → (b ≡ true → d ≡ true → ⊥) → cond b (Some y) (cond d (Some x) o) ≡ cond d (Some x) (cond b (Some y) o)
swapped x y o true true n = absurd (n refl refl)
swapped x y o true false n = refl
swapped x y o false true n = refl
swapped x y o false false n = refl

-- what rows have at arguments once a row is inserted
inserted : (rows : Rows) (k : List Value) (x : Value) (a : List Value) →
    lookup (same_values a) (insert_entry same_values rows k x) ≡ cond (same_values k a) (Some x) (lookup (same_values a) rows)
inserted [] k x a = λ i. cond (same_values_equivalence.symm a k i) (Some x) None
inserted (r ∷ rs) k x a = by (same_values k r.0) refl (inserted rs k x a)
  where
    by : (b : Bool) → same_values k r.0 ≡ b → lookup (same_values a) (insert_entry same_values rs k x) ≡ cond (same_values k a) (Some x) (lookup (same_values a) rs) →
        lookup (same_values a) (cond b ((r.0, x) ∷ rs) (r ∷ insert_entry same_values rs k x)) ≡ cond (same_values k a) (Some x) (cond (same_values a r.0) (Some r.1) (lookup (same_values a) rs))
    by true e h =
        let s : same_values a r.0 ≡ same_values k a = ap (same_values a) (sym ((same_values-Decides k r.0).0 e)) ∙ same_values_equivalence.symm a k in
        (λ i. cond (s i) (Some x) (lookup (same_values a) rs)) ∙ twice x r.1 (lookup (same_values a) rs) (same_values k a)
        ∙ (λ i. cond (same_values k a) (Some x) (cond (sym s i) (Some r.1) (lookup (same_values a) rs)))
    by false e h =
        ap (cond (same_values a r.0) (Some r.1)) h
        ∙ swapped x r.1 (lookup (same_values a) rs) (same_values a r.0) (same_values k a) (λ p q. true≢false (sym ((same_values-Decides k r.0).1 ((same_values-Decides k a).0 q ∙ (same_values-Decides a r.0).0 p)) ∙ e))

pub have_more : (rows : Rows) (before : List (List Value)) (args : List Value) (x : Value) (a : List Value) → have_arguments rows a ≡ is_one_of before a →
    have_arguments (insert_entry same_values rows args x) a ≡ is_one_of (before ++ args ∷ []) a
have_more rows before args x a h = ap is_some (inserted rows args x a) ∙ set_more before args a x (lookup (same_values a) rows) h

-- a row of new arguments stands behind the others
pub added : (rows : Rows) (args : List Value) (x : Value) → lookup (same_values args) rows ≡ None → insert_entry same_values rows args x ≡ rows ++ (args, x) ∷ []
added [] args x h = refl
added (r ∷ rs) args x h = by (same_values args r.0) h (added rs args x)
  where
    by : (b : Bool) → cond b (Some r.1) (lookup (same_values args) rs) ≡ None → (lookup (same_values args) rs ≡ None → insert_entry same_values rs args x ≡ rs ++ (args, x) ∷ []) →
        cond b ((r.0, x) ∷ rs) (r ∷ insert_entry same_values rs args x) ≡ r ∷ rs ++ (args, x) ∷ []
    by true e g = absurd cc
    by false e g = ap (λ zs. r ∷ zs) (g e)

-- arguments are new where it isn't told that an earlier row has them
pub are_new : (b : Bool) (p : Span) (o : Option Value) → b ≡ is_some o → first (repeat_rule b p) ≡ None → o ≡ None
are_new b p None e h = refl
are_new b p (Some x) e h =
    let told : first (repeat_rule true p) ≡ None = ap (λ z. first (repeat_rule z p)) (sym e) ∙ h in
    absurd cc

-- where the first of two lists is none, neither has one
pub both_none : (vs ws : List Violation) (v w u : Option Violation) → v ≡ first vs → w ≡ first ws → u ≡ first (vs ++ ws) → u ≡ None → (v ≡ None) × (w ≡ None)
both_none vs ws v w u p q r e =
    let none = nothing (vs ++ ws) (sym r ∙ e) in
    (p ∙ ap first (left_none vs ws none), q ∙ ap first (right_none vs ws none))

-- Items

placed : {X : Type 0} (head : X → Ident) (xs : List X) (x : List ℕ) →
    place_of (names_in (map head xs)) x ≡ position_from (λ y. bytes_eq x (head y).name) 0 xs
placed head xs x = from-map (bytes_eq x) ident_name 0 (map head xs) ∙ from-map (λ z. bytes_eq x (ident_name z)) head 0 xs

pub found_none : {X : Type 0} (head : X → Ident) (xs : List X) (x : List ℕ) → place_of (names_in (map head xs)) x ≡ None → None ≡ item_named head xs x
found_none head xs x h = sym (from-none (λ y. bytes_eq x (head y).name) 0 xs (sym (placed head xs x) ∙ h))

pub found_some : {X : Type 0} (head : X → Ident) (xs : List X) (x : List ℕ) (k : ℕ) → place_of (names_in (map head xs)) x ≡ Some k → slice_get xs k ≡ item_named head xs x
found_some head xs x k h =
    let r = from-some (λ y. bytes_eq x (head y).name) 0 xs k (sym (placed head xs x) ∙ h) in
    let e : k ≡ r.0 = omega (arith, r.1) in
    ap (slice_get xs) e ∙ r.2
