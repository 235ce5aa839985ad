-- Trails with one step more, or with the last ones taken away.
use Rattle.std.proofs.Common.{◌≡◌, ℕ, suc, ◌+◌, ◌*◌, ◌<◌, ◌≤◌, ◌||◌, ◌&&◌, ◌⊎◌, ⊎_elim, not, Bool, true, false, eqb, List, [], ◌∷◌, ◌++◌, length, take, map, Some, refl, sym, ap, ◌∙◌, subst, arith}
use Rattle.std.specs.List.{slice_get}
use Rattle.std.proofs.lemmas.Bool.{eqb-true}
use Rattle.std.proofs.lemmas.Bool.Decides.{Decides-ltb}
use Rattle.std.proofs.lemmas.List.{length-append, length-take-le, length-map, map-append, take-map, take-take, take-append-le, get_or_append_left, get_or-take, get_or-map, take_more}
use Rattle.std.proofs.lemmas.List.Folds.{list_any-append}
use Rattle.std.proofs.lemmas.List.Sums.{sum_by-cons}
use Rattle.std.proofs.lemmas.Option.{get_or_from_slice_get, slice_get_within}
use Rattle.sp_rules.proofs.Steps.{ready, no_lack}
use Rattle.sp_rules.specs.Table.{rule_of, fits_by, is_formed}
use Rattle.std.proofs.Math.Seq.{get_or-append_seam, take-append_seam, take-length}
use Rattle.sp_bits.specs.Table.{Bits, has, empty_table}
use Rattle.sp_pool.specs.Records.{Records, HasRoom, words_held}
use Rattle.sp_pool.proofs.NodeLaws.{get_pushed, get_taken}
use Rattle.sp_rules.specs.Terms.{Terms, count, AreSmall}
use Rattle.sp_rules.specs.Table.{lack_of, in_range}
use Rattle.sp_rules.specs.Facts.{holds_in, is_fact}
use Rattle.sp_rules.specs.declared.fact.Fact.{Fact}
use Rattle.sp_rules.specs.declared.fact.Fact.TheVariants.{Eq, Le}
use Rattle.sp_rules.specs.declared.fact.Step.{Step}
use Rattle.sp_saturate.specs.Steps.{on, given_on, given, step_at, step_of, IsFound, AreFound}
use Rattle.sp_saturate.specs.Marked.{IsMarked, IsUnmarked}
use Rattle.sp_saturate.specs.Trail.{Found, IsTrail, Extends}
use Rattle.sp_saturate.proofs.StepLemmas.{on-append, on-none}
use Rattle.sp_rules.proofs.FactLemmas.{both_true, is_fact-true, or_false}

pub given_on-append : (xs : List Step) (s : Step) (f : Fact) → given_on (xs ++ s ∷ []) f ≡ (given_on xs f || (eqb s.rule 0 && is_fact s.fact f))
unfolding given_on
given_on-append xs s f =
    list_any-append (λ t. eqb t.rule 0 && is_fact t.fact f) xs (s ∷ []) ∙ ap (λ b. given_on xs f || b) (or_false (eqb s.rule 0 && is_fact s.fact f))

split_last : (k n : ℕ) → k < n + 1 → (k < n) ⊎ (k ≡ n)
split_last k n l = grind arith

pub found_more : (ts : Terms) (xs : List Step) (s : Step) → AreFound ts xs → IsFound ts xs s → AreFound ts (xs ++ s ∷ [])
found_more ts xs s before here k l = ⊎_elim front last (split_last k (length xs) (omega (arith, length-append xs (s ∷ []))))
  where
    front : k < length xs → IsFound ts (take k (xs ++ s ∷ [])) (step_at (xs ++ s ∷ []) k)
    front b =
        let e : take k (xs ++ s ∷ []) ≡ take k xs = take-append-le k xs (s ∷ []) (omega arith) in
        let d : step_at (xs ++ s ∷ []) k ≡ step_at xs k = get_or_append_left xs (s ∷ []) (given (Eq 0 0)) k b in
        subst (λ t. IsFound ts t (step_at (xs ++ s ∷ []) k)) (sym e) (subst (λ t. IsFound ts (take k xs) t) (sym d) (before k b))

    last : k ≡ length xs → IsFound ts (take k (xs ++ s ∷ [])) (step_at (xs ++ s ∷ []) k)
    last b =
        let e : take k (xs ++ s ∷ []) ≡ xs = ap (λ n. take n (xs ++ s ∷ [])) b ∙ take-append_seam xs (s ∷ []) in
        let d : step_at (xs ++ s ∷ []) k ≡ s = ap (λ n. step_at (xs ++ s ∷ []) n) b ∙ get_or-append_seam xs s [] (given (Eq 0 0)) in
        subst (λ t. IsFound ts t (step_at (xs ++ s ∷ []) k)) (sym e) (subst (λ t. IsFound ts xs t) (sym d) here)

pub found_less : (ts : Terms) (xs : List Step) (m : ℕ) → m ≤ length xs → AreFound ts xs → AreFound ts (take m xs)
found_less ts xs m l before k b =
    let below : k < m = omega (arith, b, length-take-le m xs l) in
    let e : take k (take m xs) ≡ take k xs = take-take k m xs (omega arith) in
    let d : step_at (take m xs) k ≡ step_at xs k = get_or-take m xs k (given (Eq 0 0)) below in
    subst (λ t. IsFound ts t (step_at (take m xs) k)) (sym e) (subst (λ t. IsFound ts (take k xs) t) (sym d) (before k (omega arith)))

words_of_four : (rs : List (List ℕ)) → ((k : ℕ) (words : List ℕ) → slice_get rs k ≡ Some words → length words ≡ 4) → words_held rs ≡ 4 * length rs
words_of_four [] four = refl
words_of_four (r ∷ rs) four = omega (arith, sum_by-cons length r rs, four 0 r refl, words_of_four rs (λ k words e. four (suc k) words e))

module _ (ts : Terms) (eq le : Bits) (r : Records) (t : IsTrail ts eq le r) where
  module _ (s : Step) (eqn len : Bits) (marked : IsMarked s.fact eq le eqn len) where
    pub has_room : (words : List ℕ) → length words ≡ 4 → length eqn.pairs ≤ eqn.count * eqn.count → length len.pairs ≤ len.count * len.count → HasRoom r (length words)
    has_room words four few_eq few_le =
        let n = count ts in
        let a : eqn.count * eqn.count ≡ n * n = ap (λ x. x * x) (marked.eq_size ∙ t.eq_size) in
        let b : len.count * len.count ≡ n * n = ap (λ x. x * x) (marked.le_size ∙ t.le_size) in
        let fewer : length r.records + 1 ≤ 2 * (n * n) = omega (arith, few_eq, few_le, marked.one_more, t.counted, a, b) in
        record {
          words = omega (arith, words_of_four r.records t.four, t.word_room, fewer, four);
          one_more = omega (arith, t.record_room, fewer);
        }

    pub trail_more : (words : List ℕ) → length words ≡ 4 → step_of words ≡ s → IsFound ts (map step_of r.records) s → IsTrail ts eqn len (record r { records = r.records ++ words ∷ [] })
    trail_more words four back found = record {
      small = t.small;
      eq_size = marked.eq_size ∙ t.eq_size;
      le_size = marked.le_size ∙ t.le_size;
      record_room = t.record_room;
      word_room = t.word_room;
      four = λ k ws e. ⊎_elim (λ h. t.four k ws h) (λ h. ap length (sym h.1) ∙ four) (get_pushed r.records words ws k e);
      here = λ f. marked.has f ∙ ap (λ b. is_fact s.fact f || b) (t.here f) ∙ swap (is_fact s.fact f) (on (map step_of r.records) f) ∙ sym (ap (λ xs. on xs f) pushed ∙ on-append (map step_of r.records) s f);
      counted = omega (arith, length-append r.records (words ∷ []), marked.one_more, t.counted);
      found = subst (AreFound ts) (sym pushed) (found_more ts (map step_of r.records) s t.found found);
    }
      where
        pushed : map step_of (r.records ++ words ∷ []) ≡ map step_of r.records ++ s ∷ []
        pushed = map-append step_of r.records (words ∷ []) ∙ ap (λ x. map step_of r.records ++ x ∷ []) back

        swap : (a b : Bool) → (a || b) ≡ (b || a)
        swap true true = refl
        swap true false = refl
        swap false true = refl
        swap false false = refl

  module _ (m : ℕ) (more : length r.records ≡ m + 1) (s : Step) (last : s ≡ step_at (map step_of r.records) m) (eqn len : Bits) (unmarked : IsUnmarked s.fact eq le eqn len) where
    steps_are : map step_of r.records ≡ take m (map step_of r.records) ++ s ∷ []
    steps_are =
        let n : length (map step_of r.records) ≡ m + 1 = length-map r.records step_of ∙ more in
        sym (take-length (map step_of r.records)) ∙ ap (λ k. take k (map step_of r.records)) n
        ∙ take_more (map step_of r.records) m (given (Eq 0 0)) (omega arith) ∙ ap (λ x. take m (map step_of r.records) ++ x ∷ []) (sym last)

    absent : on (take m (map step_of r.records)) s.fact ≡ false
    absent =
        let n : length (map step_of r.records) ≡ m + 1 = length-map r.records step_of ∙ more in
        ap (λ x. on (take m (map step_of r.records)) x.fact) last ∙ (t.found m (omega arith)).new

    here_less : (f : Fact) → holds_in eqn len f ≡ on (take m (map step_of r.records)) f
    here_less f = unmarked.has f ∙ ap (λ b. not (is_fact s.fact f) && b) (t.here f ∙ ap (λ xs. on xs f) steps_are ∙ on-append (take m (map step_of r.records)) s f) ∙ by (is_fact s.fact f) refl
      where
        by : (b : Bool) → is_fact s.fact f ≡ b → (not b && (on (take m (map step_of r.records)) f || b)) ≡ on (take m (map step_of r.records)) f
        by true e = sym (ap (λ g. on (take m (map step_of r.records)) g) (sym (is_fact-true s.fact f e)) ∙ absent)
        by false e = or_false (on (take m (map step_of r.records)) f)

    pub trail_less : IsTrail ts eqn len (record r { records = take m r.records })
    trail_less = record {
      small = t.small;
      eq_size = unmarked.eq_size ∙ t.eq_size;
      le_size = unmarked.le_size ∙ t.le_size;
      record_room = t.record_room;
      word_room = t.word_room;
      four = λ k ws e. t.four k ws (get_taken m r.records k ws e);
      here = λ f. here_less f ∙ ap (λ xs. on xs f) (take-map step_of m r.records);
      counted = omega (arith, length-take-le m r.records (omega arith), unmarked.one_less, t.counted);
      found = subst (AreFound ts) (take-map step_of m r.records) (found_less ts (map step_of r.records) m (omega (arith, length-map r.records step_of)) t.found);
    }

  -- the step of the record of this number
  pub step_there : (k : ℕ) (words : List ℕ) → slice_get r.records k ≡ Some words → step_at (map step_of r.records) k ≡ step_of words
  step_there k words e = get_or-map step_of r.records k [] (given (Eq 0 0)) (slice_get_within r.records k words e) ∙ ap step_of (get_or_from_slice_get r.records k words [] e)

abbrev pub Below : Bits → Type 0
Below t = (a b : ℕ) → has t a b ≡ true → (a < t.count) × (b < t.count)

-- a fact that is there speaks of terms
pub in_range_held : (n : ℕ) (eq le : Bits) → Below eq → Below le → eq.count ≡ n → le.count ≡ n → (f : Fact) → holds_in eq le f ≡ true → in_range n f ≡ true
in_range_held n eq le u v s t (Eq i j) e = let b = u i j e in both_true _ _ ((Decides-ltb i n).1 (omega arith)) ((Decides-ltb j n).1 (omega arith))
in_range_held n eq le u v s t (Le i j) e = let b = v i j e in both_true _ _ ((Decides-ltb i n).1 (omega arith)) ((Decides-ltb j n).1 (omega arith))

pub none_in_empty : (n m : ℕ) (f : Fact) → holds_in (empty_table n) (empty_table m) f ≡ false
unfolding has
none_in_empty n m (Eq i j) = refl
none_in_empty n m (Le i j) = refl

pub trail_empty : (ts : Terms) (n words : ℕ) → AreSmall ts → n ≡ count ts → words ≡ 8 * (count ts * count ts)
    → IsTrail ts (empty_table n) (empty_table n) (record { records = []; most_words = words; most_records = 2 * (count ts * count ts) })
trail_empty ts n words small e w = record {
  small = small;
  eq_size = e;
  le_size = e;
  record_room = refl;
  word_room = w;
  four = λ k ws g. absurd (cc);
  here = λ f. none_in_empty n n f ∙ sym (on-none f);
  counted = refl;
  found = λ k l. absurd (omega arith);
}

-- a step that lacks nothing has a rule
pub has_rule : (ts : Terms) (h : Fact → Bool) (s : Step) → lack_of ts h s ≡ no_lack → eqb s.rule 0 ≡ false
has_rule ts h s e = by (eqb s.rule 0) refl
  where
    by : (b : Bool) → eqb s.rule 0 ≡ b → b ≡ false
    by false w = refl
    by true w =
        let zero_rule : is_formed ts s ≡ false = ap (λ n. fits_by ts s (rule_of n)) (eqb-true s.rule 0 w) in
        absurd (cc (sym (ready ts h s e).is_formed_here ∙ zero_rule))

pub extends_none : (a : Found) → Extends a a
extends_none a = record { terms_same = refl; longer = omega arith; kept = take-length a.steps; given_same = λ f. refl }

pub extends_one : (a : Found) (s : Step) → lack_of a.terms (on a.steps) s ≡ no_lack → Extends a (record a { steps = a.steps ++ s ∷ [] })
extends_one a s e = record {
  terms_same = refl;
  longer = omega (arith, length-append a.steps (s ∷ []));
  kept = take-append_seam a.steps (s ∷ []);
  given_same = λ f. given_on-append a.steps s f ∙ ap (λ b. given_on a.steps f || (b && is_fact s.fact f)) (has_rule a.terms (on a.steps) s e) ∙ or_false (given_on a.steps f);
}

pub extends_then : (a b c : Found) → Extends a b → Extends b c → Extends a c
extends_then a b c x y = record {
  terms_same = y.terms_same ∙ x.terms_same;
  longer = omega (arith, x.longer, y.longer);
  kept = sym (take-take (length a.steps) (length b.steps) c.steps x.longer) ∙ ap (take (length a.steps)) y.kept ∙ x.kept;
  given_same = λ f. y.given_same f ∙ x.given_same f;
}
