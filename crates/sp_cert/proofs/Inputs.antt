-- Whole lines in front of an input.
use Rattle.std.proofs.Common.{◌≡◌, ◌≢◌, ℕ, ◌+◌, ◌≤◌, ◌&&◌, not, Bool, true, false, cond, eqb, List, [], ◌∷◌, ◌++◌, length, Option, Some, None, Ok, Err, refl, sym, ap, ◌∙◌, arith, append_assoc, length-append}
use Rattle.std.specs.Prelude.{decimal, codes}
use Rattle.std.proofs.lemmas.Bool.{eqb-true, eq-eqb}
use Rattle.std.proofs.lemmas.Bool.Decides.{nat_tests}
use Rattle.std.proofs.lemmas.Fmt.{digits_decimal}
use Rattle.sp_text.specs.declared.fault.TextFault.{TextFault}
use Rattle.sp_text.specs.Classes.{digit_byte}
use Rattle.sp_rules.specs.declared.fact.Fact.{Fact}
use Rattle.sp_rules.specs.declared.fact.Fact.TheVariants as fact
use Rattle.sp_rules.specs.declared.fact.Step.{Step}
use Rattle.sp_cert.specs.Spelling.{fact_words, step_line, split_line, leaf_line, steps_line, formula_line, first_line, text}
use Rattle.sp_cert.specs.Within.{IsFact, IsStep}
use Rattle.sp_cert.specs.Answers.{feed_free}
use Rattle.sp_cert.specs.Input.{Input, Outcome, Reader, and_then, line, behind, one, one_or, bad_line}
use Rattle.sp_cert.proofs.Numbers.{most, digits_only, own}
use Rattle.sp_cert.proofs.Feeds.{one_line, feed_first, feed_later}
use Rattle.sp_cert.proofs.Texts.{text_append}

both : (a b : Bool) → (a && b) ≡ true → (a ≡ true) × (b ≡ true)
both true b e = (refl, e)
both false b e = absurd (cc)

join : (a b : Bool) → a ≡ true → b ≡ true → (a && b) ≡ true
join true b e f = f
join false b e f = absurd (cc)

free_append : (l m : List ℕ) → feed_free l ≡ true → feed_free m ≡ true → feed_free (l ++ m) ≡ true
free_append [] m e f = f
free_append (b ∷ l) m e f = let k = both (not (eqb b 10)) (feed_free l) e in join (not (eqb b 10)) (feed_free (l ++ m)) k.0 (free_append l m k.1 f)

free_digits : (ds : List ℕ) → digits_only ds ≡ true → feed_free ds ≡ true
free_digits [] e = refl
free_digits (c ∷ cs) e = let k = both (digit_byte c) (digits_only cs) e in join (not (eqb c 10)) (feed_free cs) (other c k.0) (free_digits cs k.1)
  where
    other : (c : ℕ) → digit_byte c ≡ true → not (eqb c 10) ≡ true
    other c e = grind (arith, nat_tests)

free_decimal : (n : ℕ) → n ≤ most → feed_free (decimal n) ≡ true
free_decimal n h = free_digits (decimal n) (digits_decimal own n (omega arith))

free_fact : (f : Fact) → IsFact f → feed_free (fact_words f) ≡ true
free_fact (fact.Eq i j) h = free_append (codes "EQ ") (decimal i ++ (codes " " ++ decimal j)) refl (free_append (decimal i) (codes " " ++ decimal j) (free_decimal i h.0) (free_decimal j h.1))
free_fact (fact.Le i j) h = free_append (codes "LE ") (decimal i ++ (codes " " ++ decimal j)) refl (free_append (decimal i) (codes " " ++ decimal j) (free_decimal i h.0) (free_decimal j h.1))

pub free_step : (s : Step) → IsStep s → feed_free (step_line s) ≡ true
unfolding step_line
free_step s h =
    let small : s.rule ≤ most = omega (arith, h.rule.1) in
    free_append (fact_words s.fact) (codes " K" ++ (decimal s.rule ++ (codes " " ++ (decimal s.p ++ (codes " " ++ decimal s.q))))) (free_fact s.fact h.fact)
    (free_append (decimal s.rule) (codes " " ++ (decimal s.p ++ (codes " " ++ decimal s.q))) (free_decimal s.rule small)
    (free_append (decimal s.p) (codes " " ++ decimal s.q) (free_decimal s.p h.p) (free_decimal s.q h.q)))

pub free_split : (a : ℕ) → a ≤ most → feed_free (split_line a) ≡ true
unfolding split_line
free_split a h = free_decimal a h

pub free_leaf : (k : ℕ) → k ≤ most → feed_free (leaf_line k) ≡ true
unfolding leaf_line
free_leaf k h = free_decimal k h

pub free_steps : (k : ℕ) → k ≤ most → feed_free (steps_line k) ≡ true
unfolding steps_line
free_steps k h = free_decimal k h

pub free_formula : (n : ℕ) → n ≤ most → feed_free (formula_line n) ≡ true
unfolding formula_line
free_formula n h = free_decimal n h

pub free_first : (v : ℕ) → v ≤ most → feed_free (first_line v) ≡ true
unfolding first_line
free_first v h = free_decimal v h

-- the line that a feed ends
pub line_is : (l r : List ℕ) → feed_free l ≡ true → (line (l ++ (10 ∷ r)) ≡ l) × (behind (l ++ (10 ∷ r)) ≡ Some r)
line_is [] r e = feed_first 10 r refl
line_is (b ∷ l) r e =
    let k = both (not (eqb b 10)) (feed_free l) e in
    let f = feed_later b (l ++ (10 ∷ r)) (other b k.0) in
    let h = line_is l r k.1 in
    (f.0 ∙ ap (λ t. b ∷ t) h.0, f.1 ∙ h.1)
  where
    other : (b : ℕ) → not (eqb b 10) ≡ true → b ≢ 10
    other b e s = let t : not true ≡ true = ap not (sym (eq-eqb b 10 s)) ∙ e in absurd (cc)

free_line : (b : ℕ) (xs : List ℕ) (t : Bool) → eqb b 10 ≡ t → feed_free (line xs) ≡ true → feed_free (cond t [] (b ∷ line xs)) ≡ true
free_line b xs true t h = refl
free_line b xs false t h = join (not (eqb b 10)) (feed_free (line xs)) (ap not t) h

pub line_free : (xs : List ℕ) → feed_free (line xs) ≡ true
unfolding line
line_free [] = refl
line_free (b ∷ xs) = free_line b xs (eqb b 10) refl (line_free xs)

cut_before : (b : ℕ) (xs r : List ℕ) (t : Bool) → eqb b 10 ≡ t → (behind xs ≡ Some r → xs ≡ line xs ++ (10 ∷ r)) → cond t (Some xs) (behind xs) ≡ Some r → b ∷ xs ≡ cond t [] (b ∷ line xs) ++ (10 ∷ r)
cut_before b xs r true t h e = let s : b ≡ 10 = eqb-true b 10 t in let q : xs ≡ r = cc in cc
cut_before b xs r false t h e = ap (λ l. b ∷ l) (h e)

pub line_before : (xs r : List ℕ) → behind xs ≡ Some r → xs ≡ line xs ++ (10 ∷ r)
unfolding line behind
line_before [] r e = absurd (cc)
line_before (b ∷ xs) r e = cut_before b xs r (eqb b 10) refl (line_before xs r) e

-- lines before what is left, and the input behind them
abbrev pub from : List (List ℕ) → List ℕ → ℕ → Input
from ls r at = record { rest = text ls ++ r; at = at }

abbrev pub past : List (List ℕ) → List ℕ → ℕ → Input
past ls r at = record { rest = r; at = at + length (text ls) }

pub from_append : (ls ms : List (List ℕ)) (r : List ℕ) (at : ℕ) → from (ls ++ ms) r at ≡ from ls (text ms ++ r) at
from_append ls ms r at = ap (λ (t : List ℕ). let i : Input = record { rest = t; at = at } in i) (ap (λ t. t ++ r) (text_append ls ms) ∙ append_assoc (text ls) (text ms) r)

pub past_append : (ls ms : List (List ℕ)) (r : List ℕ) (at : ℕ) → past (ls ++ ms) r at ≡ past ms r (at + length (text ls))
past_append ls ms r at =
    ap (λ (n : ℕ). let i : Input = record { rest = r; at = n } in i) (count (length (text ls)) (length (text ms)) (length (text (ls ++ ms))) (ap length (text_append ls ms) ∙ length-append (text ls) (text ms)))
  where
    count : (a b c : ℕ) → c ≡ a + b → at + c ≡ (at + a) + b
    count a b c e = omega arith

-- a reader that takes these lines, whatever follows
abbrev pub Takes : {A : Type 0} → Reader A → List (List ℕ) → A → Type 0
Takes f ls a = (r : List ℕ) (at : ℕ) → f (from ls r at) ≡ Ok (a, past ls r at)

abbrev ok : {A : Type 0} → A → Input → Outcome A
ok a i = Ok (a, i)

pub one_whole : {A : Type 0} (p : List ℕ → Option A) (l r : List ℕ) (at : ℕ) (a : A) → feed_free l ≡ true → p l ≡ Some a → one p (record { rest = l ++ (10 ∷ r); at = at }) ≡ Ok (a, past (l ∷ []) r at)
one_whole {A} p l r at a free e =
    let i : Input = record { rest = l ++ (10 ∷ r); at = at } in
    let h = line_is l r free in
    one_line p i h.1 (ap p h.0 ∙ e) ∙ ap (λ n. ok a (record { rest = r; at = n })) (count (length l) (length (line (l ++ (10 ∷ r)))) (length (l ++ (10 ∷ []))) (ap length h.0) (length-append l (10 ∷ [])))
  where
    count : (n m k : ℕ) → m ≡ n → k ≡ n + 1 → at + m + 1 ≡ at + k
    count n m k e f = omega arith

front_is : (l r : List ℕ) (at : ℕ) → from (l ∷ []) r at ≡ record { rest = l ++ (10 ∷ r); at = at }
front_is l r at = ap (λ (t : List ℕ). let i : Input = record { rest = t; at = at } in i) (append_assoc l (10 ∷ []) r)

pub takes_one : {A : Type 0} (p : List ℕ → Option A) (l : List ℕ) (a : A) → feed_free l ≡ true → p l ≡ Some a → Takes (one p) (l ∷ []) a
takes_one p l a free e r at = ap (one p) (front_is l r at) ∙ one_whole p l r at a free e

pub takes_two : {A B : Type 0} (f : Reader A) (g : A → Reader B) (ls ms : List (List ℕ)) (a : A) (b : B) → Takes f ls a → Takes (g a) ms b → Takes (λ i. and_then (f i) g) (ls ++ ms) b
takes_two f g ls ms a b x y r at =
    ap (λ i. and_then (f i) g) (from_append ls ms r at) ∙ ap (λ o. and_then o g) (x (text ms ++ r) at) ∙ y r (at + length (text ls))
    ∙ ap (ok b) (sym (past_append ls ms r at))

-- behind the lines ls, F reads as h
abbrev pub Behind : {B : Type 0} → Reader B → List (List ℕ) → Reader B → Type 0
Behind F ls h = (r : List ℕ) (at : ℕ) → F (from ls r at) ≡ h (past ls r at)

pub takes_behind : {B : Type 0} (F h : Reader B) (ls ms : List (List ℕ)) (b : B) → Behind F ls h → Takes h ms b → Takes F (ls ++ ms) b
takes_behind F h ls ms b x y r at = ap F (from_append ls ms r at) ∙ x (text ms ++ r) at ∙ y r (at + length (text ls)) ∙ ap (ok b) (sym (past_append ls ms r at))

pub takes_map : {A B : Type 0} (f : Reader A) (h : A → B) (ls : List (List ℕ)) (a : A) → Takes f ls a → Takes (λ i. and_then (f i) (λ a j. Ok (h a, j))) ls (h a)
takes_map f h ls a x r at = ap (λ o. and_then o (λ a j. ok (h a) j)) (x r at)

-- the lines between two inputs
pub record Told (i : Input) (ls : List (List ℕ)) (j : Input) : Type 0 where
  pub is : i ≡ from ls j.rest i.at
  pub place : j ≡ past ls j.rest i.at

pub told_two : (i j k : Input) (ls ms : List (List ℕ)) → Told i ls j → Told j ms k → Told i (ls ++ ms) k
told_two i j k ls ms x y = record {
  is = x.is ∙ ap (λ t. from ls t i.at) (ap rest_of y.is) ∙ sym (from_append ls ms k.rest i.at);
  place = y.place ∙ ap (past ms k.rest) (ap at_of x.place) ∙ sym (past_append ls ms k.rest i.at);
}
  where
    rest_of : Input → List ℕ
    rest_of i = i.rest

    at_of : Input → ℕ
    at_of i = i.at

-- what a reader that reads one after another gives
pub record Then {A B : Type 0} (o : Outcome A) (g : A → Reader B) (b : B) (k : Input) : Type 0 where
  pub a : A
  pub j : Input
  pub is : o ≡ Ok (a, j)
  pub then : g a j ≡ Ok (b, k)

pub both_read : {A B : Type 0} (o : Outcome A) (g : A → Reader B) (b : B) (k : Input) → and_then o g ≡ Ok (b, k) → Then o g b k
both_read (Ok p) g b k e = record { a = p.0; j = p.1; is = refl; then = e }
both_read (Err x) g b k e = absurd (cc)

abbrev value_or : {A : Type 0} → A → Outcome A → A
value_or d (Ok p) = p.0
value_or d (Err e) = d

abbrev input_or : {A : Type 0} → Input → Outcome A → Input
input_or d (Ok p) = p.1
input_or d (Err e) = d

pub ok_value : {A : Type 0} (x y : A) (i j : Input) → ok x i ≡ ok y j → (x ≡ y) × (i ≡ j)
ok_value x y i j e = (ap (value_or x) e, ap (input_or i) e)

abbrev rest_of : Input → List ℕ
rest_of i = i.rest

abbrev at_place : List ℕ → ℕ → Input
at_place r n = record { rest = r; at = n }

abbrev pub whole_line : List ℕ → List ℕ
whole_line r = line r

-- a line that is taken
pub record Line {A : Type 0} (p : List ℕ → Option A) (i : Input) (a : A) (j : Input) : Type 0 where
  pub line : List ℕ
  pub free : feed_free line ≡ true
  pub is : p line ≡ Some a
  pub told : Told i (line ∷ []) j
  pub same : whole_line i.rest ≡ line
  pub whole : behind i.rest ≡ Some j.rest

line_by : {A : Type 0} (p : List ℕ → Option A) (i j : Input) (a : A) (o : Option (List ℕ)) (x : Option A) → behind i.rest ≡ o → p (line i.rest) ≡ x → one_or o x i ≡ Ok (a, j) → Line p i a j
line_by {A} p i j a (Some r) (Some b) h g e =
    let l : List ℕ = line i.rest in
    let k = ok_value b a (at_place r (i.at + length l + 1)) j e in
    let x : r ≡ j.rest = ap rest_of k.1 in
    record {
      line = l;
      free = line_free i.rest;
      is = g ∙ ap (λ (y : A). let o : Option A = Some y in o) k.0;
      told = record {
        is = ap (λ t. at_place t i.at) (line_before i.rest r h) ∙ sym (front_is l r i.at) ∙ ap (λ t. from (l ∷ []) t i.at) x;
        place = sym k.1 ∙ ap (at_place r) (count (length l) (length (l ++ (10 ∷ []))) (length-append l (10 ∷ []))) ∙ ap (λ t. past (l ∷ []) t i.at) x;
      };
      same = refl;
      whole = h ∙ ap (λ (t : List ℕ). let o : Option (List ℕ) = Some t in o) x;
    }
  where
    count : (n m : ℕ) → m ≡ n + 1 → i.at + n + 1 ≡ i.at + m
    count n m e = omega arith
line_by p i j a (Some r) None h g e = absurd (cc)
line_by p i j a None x h g e = absurd (cc)

pub line_told : {A : Type 0} (p : List ℕ → Option A) (i j : Input) (a : A) → one p i ≡ Ok (a, j) → Line p i a j
unfolding one
line_told p i j a e = line_by p i j a (behind i.rest) (p (line i.rest)) refl refl e

-- a line that doesn't fit
fault_by : {A : Type 0} (p : List ℕ → Option A) (i : Input) (e : TextFault) (o : Option (List ℕ)) (x : Option A) → p (line i.rest) ≡ x → behind i.rest ≡ o → one_or o x i ≡ Err e
    → (e ≡ bad_line i) × ((q : List ℕ) → behind i.rest ≡ Some q → p (line i.rest) ≡ None)
fault_by p i e (Some r) (Some b) g h k = absurd (cc)
fault_by p i e (Some r) None g h k = (cc, λ q s. g)
fault_by p i e None x g h k = (cc, λ q s. absurd (cc))

pub line_refused : {A : Type 0} (p : List ℕ → Option A) (i : Input) (e : TextFault) → one p i ≡ Err e → (e ≡ bad_line i) × ((q : List ℕ) → behind i.rest ≡ Some q → p (line i.rest) ≡ None)
unfolding one
line_refused p i e k = fault_by p i e (behind i.rest) (p (line i.rest)) refl refl k

all_by : (b : ℕ) (xs : List ℕ) (t : Bool) → eqb b 10 ≡ t → (behind xs ≡ None → line xs ≡ xs) → cond t (Some xs) (behind xs) ≡ None → cond t [] (b ∷ line xs) ≡ b ∷ xs
all_by b xs true t h e = absurd (cc)
all_by b xs false t h e = ap (λ l. b ∷ l) (h e)

-- the whole rest is a line without its feed
pub line_all : (xs : List ℕ) → behind xs ≡ None → line xs ≡ xs
unfolding line behind
line_all [] e = refl
line_all (b ∷ xs) e = all_by b xs (eqb b 10) refl (line_all xs) e
