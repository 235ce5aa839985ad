-- The first of a list by an order: it stands in the list and none stands before it, and the first of two lists is had from
-- the first of each. For all that judges.
use Rattle.std.proofs.Common.{◌≡◌, refl, sym, subst, ◌∙◌, ap, rules, arith, ℕ, List, [], ◌∷◌, ◌++◌, Bool, true, false, Option, Some, None}
use Rattle.std.specs.Prelude.{if◌then◌else◌, slice_index_or, ◌||◌, ◌&&◌, nat_lt, nat_eq}
use Rattle.std.specs.List.{All, Contains}
use Rattle.std.proofs.lemmas.List.Elements.{All-cons, All-nil, Contains-append_left, Contains-append_right, Contains-push}
use Rattle.sp_text.specs.declared.violation.FileViolation.{FileViolation}
use Rattle.sp_text.specs.declared.violation.Violation.{Violation}
use Rattle.sp_text.specs.Firsts.{earlier_by, earliest_by, first_by}
use Rattle.sp_text.specs.Violations.{first, first_in_files, in_file, number_of, sooner, sooner_in_files}

-- an order by which two may stand alike: 'before', and 'not before', carry over
pub record IsOrdering {A : Type 0} (before : A → A → Bool) : Type 0 where
  pub before_then : (f g h : A) → before f g ≡ true → before g h ≡ true → before f h ≡ true
  pub not_before : (f g h : A) → before f g ≡ false → before g h ≡ false → before f h ≡ false
  pub not_itself : (f : A) → before f f ≡ false
  pub not_both : (f g : A) → before f g ≡ true → before g f ≡ false

-- which of three is the first doesn't depend on which two are compared first
associative : {A : Type 0} (before : A → A → Bool) → IsOrdering before → (f g h : A) →
    earlier_by before f (earlier_by before g h) ≡ earlier_by before (earlier_by before f g) h
associative before o f g h = grind (rules, o.before_then h g f, o.not_before h g f)

earliest_associative : {A : Type 0} (before : A → A → Bool) → IsOrdering before → (x y z : Option A) →
    earliest_by before x (earliest_by before y z) ≡ earliest_by before (earliest_by before x y) z
earliest_associative before o None y z = refl
earliest_associative before o (Some f) None z = refl
earliest_associative before o (Some f) (Some g) None = refl
earliest_associative before o (Some f) (Some g) (Some h) = ap Some (associative before o f g h)

pub first_by_append : {A : Type 0} (before : A → A → Bool) → IsOrdering before → (xs ys : List A) →
    first_by before (xs ++ ys) ≡ earliest_by before (first_by before xs) (first_by before ys)
first_by_append before o [] ys = refl
first_by_append before o (f ∷ xs) ys =
    ap (earliest_by before (Some f)) (first_by_append before o xs ys) ∙ earliest_associative before o (Some f) (first_by before xs) (first_by before ys)

-- by a number, and where it is the same by another order
lexicographic-then : (a b c : ℕ) (p q r : Bool) → (p ≡ true → q ≡ true → r ≡ true) →
    (nat_lt a b || (nat_eq a b && p)) ≡ true → (nat_lt b c || (nat_eq b c && q)) ≡ true → (nat_lt a c || (nat_eq a c && r)) ≡ true
lexicographic-then a b c p q r t h k = grind (arith, rules, t)

lexicographic-not : (a b c : ℕ) (p q r : Bool) → (p ≡ false → q ≡ false → r ≡ false) →
    (nat_lt a b || (nat_eq a b && p)) ≡ false → (nat_lt b c || (nat_eq b c && q)) ≡ false → (nat_lt a c || (nat_eq a c && r)) ≡ false
lexicographic-not a b c p q r t h k = grind (arith, rules, t)

less-then : (a b c : ℕ) → nat_lt a b ≡ true → nat_lt b c ≡ true → nat_lt a c ≡ true
less-then a b c h k = grind (arith, rules)

less-not : (a b c : ℕ) → nat_lt a b ≡ false → nat_lt b c ≡ false → nat_lt a c ≡ false
less-not a b c h k = grind (arith, rules)

lexicographic-itself : (a : ℕ) (p : Bool) → p ≡ false → (nat_lt a a || (nat_eq a a && p)) ≡ false
lexicographic-itself a p h = grind (arith, rules)

lexicographic-both : (a b : ℕ) (p q : Bool) → (p ≡ true → q ≡ false) → (nat_lt a b || (nat_eq a b && p)) ≡ true → (nat_lt b a || (nat_eq b a && q)) ≡ false
lexicographic-both a b p q t h = grind (arith, rules, t)

less-itself : (a : ℕ) → nat_lt a a ≡ false
less-itself a = grind (arith, rules)

less-both : (a b : ℕ) → nat_lt a b ≡ true → nat_lt b a ≡ false
less-both a b h = grind (arith, rules)

pub sooner_orders : IsOrdering sooner
sooner_orders = record {
  before_then = λ f g h. lexicographic-then f.span.start g.span.start h.span.start _ _ _ (less-then (number_of f.broken) (number_of g.broken) (number_of h.broken));
  not_before = λ f g h. lexicographic-not f.span.start g.span.start h.span.start _ _ _ (less-not (number_of f.broken) (number_of g.broken) (number_of h.broken));
  not_itself = λ f. lexicographic-itself f.span.start _ (less-itself (number_of f.broken));
  not_both = λ f g. lexicographic-both f.span.start g.span.start _ _ (less-both (number_of f.broken) (number_of g.broken));
}

pub sooner_in_files_orders : IsOrdering sooner_in_files
sooner_in_files_orders = record {
  before_then = λ f g h. lexicographic-then f.file g.file h.file _ _ _ (sooner_orders.before_then f.violation g.violation h.violation);
  not_before = λ f g h. lexicographic-not f.file g.file h.file _ _ _ (sooner_orders.not_before f.violation g.violation h.violation);
  not_itself = λ f. lexicographic-itself f.file _ (sooner_orders.not_itself f.violation);
  not_both = λ f g. lexicographic-both f.file g.file _ _ (sooner_orders.not_both f.violation g.violation);
}

-- the first of two lists is the earlier of their firsts
pub first_append : (xs ys : List Violation) → first (xs ++ ys) ≡ earliest_by sooner (first xs) (first ys)
first_append xs ys = first_by_append sooner sooner_orders xs ys

pub first_in_files_append : (xs ys : List FileViolation) → first_in_files (xs ++ ys) ≡ earliest_by sooner_in_files (first_in_files xs) (first_in_files ys)
first_in_files_append xs ys = first_by_append sooner_in_files sooner_in_files_orders xs ys

pub first_of_both : (xs ys : List Violation) (f g : Option Violation) → f ≡ first xs → g ≡ first ys → earliest_by sooner f g ≡ first (xs ++ ys)
first_of_both xs ys f g h k = (λ i. earliest_by sooner (h i) (k i)) ∙ sym (first_append xs ys)

pub first_in_files_of_both : (xs ys : List FileViolation) (f g : Option FileViolation) → f ≡ first_in_files xs → g ≡ first_in_files ys →
    earliest_by sooner_in_files f g ≡ first_in_files (xs ++ ys)
first_in_files_of_both xs ys f g h k = (λ i. earliest_by sooner_in_files (h i) (k i)) ∙ sym (first_in_files_append xs ys)

-- one file's violations keep their order among those of several files
abbrev pub placed : ℕ → Option Violation → Option FileViolation
placed n None = None
placed n (Some v) = Some (record { file = n; violation = v })

alike_in_file : (n : ℕ) (f g : Violation) →
    earlier_by sooner_in_files (record { file = n; violation = f }) (record { file = n; violation = g }) ≡ record { file = n; violation = earlier_by sooner f g }
alike_in_file n f g = by (sooner g f) refl
  where
    by : (b : Bool) → sooner g f ≡ b →
        earlier_by sooner_in_files (record { file = n; violation = f }) (record { file = n; violation = g }) ≡ record { file = n; violation = earlier_by sooner f g }
    by b h = grind (arith, rules)

earliest_in_file : (n : ℕ) (f : Violation) (y : Option Violation) →
    earliest_by sooner_in_files (Some (record { file = n; violation = f })) (placed n y) ≡ placed n (earliest_by sooner (Some f) y)
earliest_in_file n f None = refl
earliest_in_file n f (Some g) = ap Some (alike_in_file n f g)

pub first_in_file : (n : ℕ) (xs : List Violation) → first_in_files (in_file n xs) ≡ placed n (first xs)
first_in_file n [] = refl
first_in_file n (f ∷ xs) =
    ap (earliest_by sooner_in_files (Some (record { file = n; violation = f }))) (first_in_file n xs) ∙ earliest_in_file n f (first xs)

-- there is no first of an empty list alone
pub first_by_none : {A : Type 0} (before : A → A → Bool) (xs : List A) → first_by before xs ≡ None → xs ≡ []
first_by_none before [] h = refl
first_by_none {A} before (f ∷ xs) h = absurd (by (first_by before xs) h)
  where
    by : (y : Option A) → earliest_by before (Some f) y ≡ None → ⊥
    by None e = cc
    by (Some g) e = cc

same : {A : Type 0} (f g : A) → Some f ≡ Some g → f ≡ g
same f g e = cc

-- v stands in the list, and none of the list stands before it
pub record IsFirst {A : Type 0} (before : A → A → Bool) (xs : List A) (v : A) : Type 0 where
  pub of : Contains xs v
  pub least : All (λ w. before w v ≡ false) xs

pub first_by_first : {A : Type 0} (before : A → A → Bool) → IsOrdering before → (xs : List A) (v : A) → first_by before xs ≡ Some v → IsFirst before xs v
first_by_first before o [] v h = absurd cc
first_by_first {A} before o (f ∷ xs) v h = by (λ g. first_by_first before o xs g) (first_by before xs) refl h
  where
    alone : All (λ w. before w f ≡ false) xs → IsFirst before (f ∷ xs) f
    alone a = record { of = Contains-append_left (f ∷ []) xs f (Contains-push [] f); least = All-cons (λ w. before w f ≡ false) f xs (o.not_itself f) a }

    chosen : (g : A) (b : Bool) → before g f ≡ b → IsFirst before xs g → Some (if b then g else f) ≡ Some v → IsFirst before (f ∷ xs) v
    chosen g true n I e =
        subst (IsFirst before (f ∷ xs)) (same g v e)
        (record { of = Contains-append_right (f ∷ []) xs g I.of; least = All-cons (λ w. before w g ≡ false) f xs (o.not_both g f n) I.least })
    chosen g false n I e =
        subst (IsFirst before (f ∷ xs)) (same f v e) (alone (λ k d l. o.not_before (slice_index_or xs k d) g f (I.least k d l) n))

    by : ((g : A) → first_by before xs ≡ Some g → IsFirst before xs g) → (y : Option A) → first_by before xs ≡ y → earliest_by before (Some f) y ≡ Some v →
        IsFirst before (f ∷ xs) v
    by rec None i e =
        subst (IsFirst before (f ∷ xs)) (same f v e) (alone (subst (All (λ w. before w f ≡ false)) (sym (first_by_none before xs i)) (All-nil (λ w. before w f ≡ false))))
    by rec (Some g) i e = chosen g (before g f) refl (rec g i) e
