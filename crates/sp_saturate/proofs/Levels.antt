-- What follows from given facts is what a closed trail has.
use Rattle.std.proofs.Common.{◌≡◌, ℕ, zero, suc, ◌+◌, ◌<◌, ◌≤◌, ◌⊎◌, ⊎_elim, ◌||◌, ◌&&◌, not, Bool, true, false, cond, eqb, ltb, List, [], ◌∷◌, ◌++◌, length, take, drop, get_or, refl, sym, ap, ◌∙◌, subst, arith, add-one}
use Rattle.std.specs.Prelude.{All, IsTrue, slice_index}
use Rattle.std.proofs.lemmas.List.Elements.{All-append}
use Rattle.std.proofs.lemmas.Bool.{eq-eqb}
use Rattle.std.proofs.lemmas.Bool.Decides.{Decides-ltb}
use Rattle.std.proofs.lemmas.List.{length-append, length-take-le, take-take, take_more, take-append-drop, take-append-le, append_assoc, get_or-take, get_or_append_left}
use Rattle.std.proofs.lemmas.List.Folds.{list_any-append}
use Rattle.std.proofs.Math.Seq.{take-length, take-append_seam, get_or-append_seam}
use Rattle.sp_rules.specs.Terms.{Terms, count}
use Rattle.sp_rules.specs.Table.{in_range}
use Rattle.sp_rules.specs.Follows.{Follows, start}
use Rattle.sp_rules.specs.Laws.{AreIn, IsClosed}
use Rattle.sp_rules.specs.declared.fact.Fact.{Fact}
use Rattle.sp_rules.specs.declared.fact.Fact.TheVariants.{Eq, Le}
use Rattle.sp_rules.specs.declared.fact.Step.{Step}
use Rattle.sp_rules.proofs.Steps.{sound, has_all, follows_more}
use Rattle.sp_saturate.specs.Steps.{on, given_on, given, step_at, AreFound}
use Rattle.sp_saturate.specs.Trail.{Found, Extends, with_given}
use Rattle.sp_saturate.specs.Situations.{IsLevel, AreKept}
use Rattle.sp_rules.specs.Questions.{IsQuestion, Question, is_truth_below}
use Rattle.sp_saturate.proofs.Trails.{given_on-append}
use Rattle.sp_rules.specs.Facts.{has_truth, is_fact, is_one_of}
use Rattle.sp_rules.proofs.FactLemmas.{both_hold, both_true, first_holds, is_fact-itself, is_fact-true, is_one_of-append, is_one_of-cons, is_one_of-none, one_holds, or_false, second_holds}
use Rattle.sp_saturate.proofs.StepLemmas.{on-append, on-none}

given_here : (s : Step) → s.rule ≡ 0 → (eqb s.rule 0 && is_fact s.fact s.fact) ≡ true
given_here s e = ap (λ b. b && is_fact s.fact s.fact) (eq-eqb s.rule 0 e) ∙ is_fact-itself s.fact

pub given_at : (xs : List Step) (k : ℕ) → k < length xs → (step_at xs k).rule ≡ 0 → given_on xs (step_at xs k).fact ≡ true
unfolding given_on
given_at [] k l e = absurd (omega arith)
given_at (x ∷ xs) zero l e = first_holds _ (given_on xs x.fact) (given_here x e)
given_at (x ∷ xs) (suc k) l e = second_holds _ _ (given_at xs k (omega arith) e)

-- each fact of a trail follows from the given ones
module _ (ts : Terms) (xs : List Step) (found : AreFound ts xs) where
  from_reason : (k : ℕ) → k < length xs → ((f : Fact) → on (take k xs) f ≡ true → Follows ts (given_on xs) f) → Follows ts (given_on xs) (step_at xs k).fact
  from_reason k l before = ⊎_elim (λ e. start (given_at xs k l e)) (λ e. sound ts (given_on xs) (on (take k xs)) before (step_at xs k) e) (found k l).reason

  follows_to : (k : ℕ) → k ≤ length xs → (f : Fact) → on (take k xs) f ≡ true → Follows ts (given_on xs) f
  follows_to zero l f e = absurd (cc (sym (on-none f) ∙ e))
  follows_to (suc k) l f e =
      ⊎_elim (follows_to k (omega arith) f) (λ (h : is_fact (step_at xs k).fact f ≡ true). subst (Follows ts (given_on xs)) (is_fact-true (step_at xs k).fact f h) (from_reason k (omega arith) (follows_to k (omega arith))))
      (one_holds _ _ (sym (ap (λ ys. on ys f) front ∙ on-append (take k xs) (step_at xs k) f) ∙ e))
    where
      front : take (suc k) xs ≡ take k xs ++ step_at xs k ∷ []
      front = ap (λ n. take n xs) (sym (add-one k)) ∙ take_more xs k (given (Eq 0 0)) (omega arith)

  pub follows_on : (f : Fact) → on xs f ≡ true → Follows ts (given_on xs) f
  follows_on f e = follows_to (length xs) (omega arith) f (ap (λ ys. on ys f) (take-length xs) ∙ e)

-- the facts of a closed trail are those that follow
pub level_has : (ts : Terms) (xs : List Step) (facts : List Fact) → AreFound ts xs → IsLevel ts xs facts → (f : Fact) → on xs f ≡ true → Follows ts (is_one_of facts) f
level_has ts xs facts found level f e = follows_more ts (given_on xs) (is_one_of facts) level.given_only f (follows_on ts xs found f e)

pub level_all : (ts : Terms) (xs : List Step) (facts : List Fact) → IsLevel ts xs facts → (f : Fact) → Follows ts (is_one_of facts) f → on xs f ≡ true
level_all ts xs facts level f w = has_all ts (is_one_of facts) (on xs) level.closed level.has f w

pub one_of-append : (xs : List Fact) (f g : Fact) → is_one_of (xs ++ f ∷ []) g ≡ (is_one_of xs g || is_fact f g)
unfolding is_one_of
one_of-append xs f g = list_any-append (λ h. is_fact h g) xs (f ∷ []) ∙ ap (λ b. is_one_of xs g || b) (or_false (is_fact f g))

-- a fact that is on a trail with the fact given besides
pub on-with_given : (xs : List Step) (f g : Fact) → on (with_given xs f) g ≡ (on xs g || is_fact f g)
on-with_given xs f g = by (on xs f) refl
  where
    by : (b : Bool) → on xs f ≡ b → on (cond b xs (xs ++ given f ∷ [])) g ≡ (on xs g || is_fact f g)
    by true e = there (is_fact f g) refl
      where
        there : (b : Bool) → is_fact f g ≡ b → on xs g ≡ (on xs g || b)
        there true w = let t : on xs g ≡ true = ap (on xs) (sym (is_fact-true f g w)) ∙ e in t ∙ sym (first_holds (on xs g) true t)
        there false w = sym (or_false (on xs g))
    by false e = on-append xs (given f) g

pub given-with_given : (xs : List Step) (f g : Fact) → given_on (with_given xs f) g ≡ (given_on xs g || (not (on xs f) && is_fact f g))
given-with_given xs f g = by (on xs f)
  where
    by : (b : Bool) → given_on (cond b xs (xs ++ given f ∷ [])) g ≡ (given_on xs g || (not b && is_fact f g))
    by true = sym (or_false (given_on xs g))
    by false = given_on-append xs (given f) g

-- where all facts are given ones, one more is
pub all_given : (xs : List Step) (f g : Fact) → ((h : Fact) → given_on xs h ≡ on xs h) → given_on (with_given xs f) g ≡ (on xs g || is_fact f g)
all_given xs f g same = given-with_given xs f g ∙ ap (λ b. b || (not (on xs f) && is_fact f g)) (same g) ∙ by (on xs f) refl (is_fact f g) refl
  where
    by : (a : Bool) → on xs f ≡ a → (b : Bool) → is_fact f g ≡ b → (on xs g || (not a && b)) ≡ (on xs g || b)
    by true e true w = let t : on xs g ≡ true = ap (on xs) (sym (is_fact-true f g w)) ∙ e in first_holds (on xs g) false t ∙ sym (first_holds (on xs g) true t)
    by true e false w = refl
    by false e b w = refl

with_given-kept : (xs : List Step) (f : Fact) → take (length xs) (with_given xs f) ≡ xs
with_given-kept xs f = by (on xs f)
  where
    by : (b : Bool) → take (length xs) (cond b xs (xs ++ given f ∷ [])) ≡ xs
    by true = take-length xs
    by false = take-append_seam xs (given f ∷ [])

with_given-longer : (xs : List Step) (f : Fact) → length xs ≤ length (with_given xs f)
with_given-longer xs f = by (on xs f)
  where
    by : (b : Bool) → length xs ≤ length (cond b xs (xs ++ given f ∷ []))
    by true = omega arith
    by false = omega (arith, length-append xs (given f ∷ []))

on_front : (n : ℕ) (ys : List Step) (f : Fact) → on (take n ys) f ≡ true → on ys f ≡ true
unfolding on
on_front n ys f e = ap (λ zs. on zs f) (sym (take-append-drop n ys)) ∙ list_any-append (λ s. is_fact s.fact f) (take n ys) (drop n ys) ∙ first_holds _ _ e

pub on_extended : (a b : Found) → Extends a b → (f : Fact) → on a.steps f ≡ true → on b.steps f ≡ true
on_extended a b x f e = on_front (length a.steps) b.steps f (ap (λ ys. on ys f) x.kept ∙ e)

-- given facts, and a trail that closes them
pub level_first : (a b : Found) (facts : List Fact) → Extends a b → IsClosed b.terms (on b.steps) → ((f : Fact) → on a.steps f ≡ is_one_of facts f) → ((f : Fact) → given_on a.steps f ≡ is_one_of facts f)
    → IsLevel b.terms b.steps facts
level_first a b facts x closed all given_all = record {
  given_only = λ f e. sym (given_all f) ∙ sym (x.given_same f) ∙ e;
  has = λ f e. on_extended a b x f (all f ∙ e);
  closed = closed;
}

pub kept_first : (q : Question) (steps : List Step) → IsQuestion q → IsLevel q.terms steps q.given → AreKept q steps [] []
kept_first q steps is level = record {
  question = is;
  truths = λ k d l. absurd (omega arith);
  as_many = refl;
  few = omega arith;
  within = λ k l. absurd (omega arith);
  rising = λ j k m l. absurd (omega arith);
  before = λ k l. absurd (omega arith);
  whole = subst (IsLevel q.terms steps) (sym (none q.given)) level;
}
  where
    none : (xs : List Fact) → xs ++ [] ≡ xs
    none [] = refl
    none (x ∷ xs) = ap (λ ys. x ∷ ys) (none xs)

module _ (q : Question) (steps : List Step) (assumed : List Fact) (starts : List ℕ) (kept : AreKept q steps assumed starts) where
  abbrev ts : Terms
  ts = q.terms

  abbrev facts : List Fact
  facts = q.given

  split_last : (k n : ℕ) → k < n + 1 → (k < n) ⊎ (k ≡ n)
  split_last k n l = grind arith

  -- a trail to which an assumption more was given
  module _ (f : Fact) (b : Found) (x : Extends (record { terms = ts; steps = with_given steps f }) b) where
    pub front : take (length steps) b.steps ≡ steps
    front =
        sym (take-take (length steps) (length (with_given steps f)) b.steps (with_given-longer steps f)) ∙ ap (take (length steps)) x.kept ∙ with_given-kept steps f

    pub longer : length steps ≤ length b.steps
    longer = omega (arith, with_given-longer steps f, x.longer)

    pub given_only_more : AreIn (given_on b.steps) (is_one_of (facts ++ (assumed ++ f ∷ [])))
    given_only_more g e =
        ap (λ fs. is_one_of fs g) (sym (append_assoc facts assumed (f ∷ []))) ∙ one_of-append (facts ++ assumed) f g ∙
        ⊎_elim (λ h. first_holds _ _ (kept.whole.given_only g h)) (λ h. second_holds (is_one_of (facts ++ assumed) g) _ (both_hold _ _ h).1) (one_holds _ _ (sym (x.given_same g ∙ given-with_given steps f g) ∙ e))

  pub truths_more : (f : Fact) → is_truth_below (count q.terms) f ≡ true → All (λ g. IsTrue (is_truth_below (count q.terms) g)) (assumed ++ f ∷ [])
  truths_more f truth = All-append (λ g. IsTrue (is_truth_below (count ts) g)) assumed (f ∷ []) kept.truths last_truth
    where
      last_truth : All (λ g. IsTrue (is_truth_below (count ts) g)) (f ∷ [])
      last_truth zero d l = truth
      last_truth (suc k) d l = absurd (omega arith)

  pub assumed_again : (f : Fact) → take (length starts) (assumed ++ f ∷ []) ≡ assumed
  assumed_again f = ap (λ n. take n (assumed ++ f ∷ [])) kept.as_many ∙ take-append_seam assumed (f ∷ [])

  -- what was given besides is taken back
  pub kept_again : (f : Fact) (b : Found) → Extends (record { terms = ts; steps = with_given steps f }) b → AreKept q (take (length steps) b.steps) (take (length starts) (assumed ++ f ∷ [])) starts
  kept_again f b x = subst (λ z. AreKept q z (take (length starts) (assumed ++ f ∷ [])) starts) (sym (front f b x)) (subst (λ z. AreKept q steps z starts) (sym (assumed_again f)) kept)

  -- an assumption more
  module _ (f : Fact) (truth : is_truth_below (count q.terms) f ≡ true) (b : Found) (terms : b.terms ≡ ts) (x : Extends (record { terms = ts; steps = with_given steps f }) b) (closed : IsClosed b.terms (on b.steps)) (fewer : length assumed < 20) where
    whole_more : IsLevel b.terms b.steps (facts ++ (assumed ++ f ∷ []))
    whole_more = record {
      given_only = given_only_more f b x;
      has = λ g e. on_extended (record { terms = ts; steps = with_given steps f }) b x g (on-with_given steps f g ∙
          ⊎_elim (λ h. first_holds _ _ (kept.whole.has g h)) (λ h. second_holds (on steps g) _ h) (one_holds _ _ (sym (ap (λ fs. is_one_of fs g) (sym (append_assoc facts assumed (f ∷ []))) ∙ one_of-append (facts ++ assumed) f g) ∙ e)));
      closed = closed;
    }

    start_at : (k : ℕ) → k < length starts → slice_index (starts ++ length steps ∷ []) k ≡ slice_index starts k
    start_at k l = get_or_append_left starts (length steps ∷ []) 0 k l

    last_start : slice_index (starts ++ length steps ∷ []) (length starts) ≡ length steps
    last_start = get_or-append_seam starts (length steps) [] 0

    pub kept_more : AreKept (record { terms = b.terms; given = q.given; atoms = q.atoms }) b.steps (assumed ++ f ∷ []) (starts ++ length steps ∷ [])
    kept_more = record {
      question = subst (λ t. IsQuestion (record { terms = t; given = q.given; atoms = q.atoms })) (sym terms) kept.question;
      truths = subst (λ t. All (λ g. IsTrue (is_truth_below (count t) g)) (assumed ++ f ∷ [])) (sym terms) (truths_more f truth);
      as_many = length-append starts (length steps ∷ []) ∙ ap (λ n. n + 1) kept.as_many ∙ sym (length-append assumed (f ∷ []));
      few = omega (arith, length-append assumed (f ∷ []));
      within = λ k l. ⊎_elim (λ (m : k < length starts). omega (arith, start_at k m, kept.within k m, longer f b x)) (λ (m : k ≡ length starts). omega (arith, ap (slice_index (starts ++ length steps ∷ [])) m, last_start, longer f b x)) (split_last k (length starts) (omega (arith, l, length-append starts (length steps ∷ []))));
      rising = λ j k m l. ⊎_elim (λ (n : k < length starts). omega (arith, start_at j (omega arith), start_at k n, kept.rising j k m n))
          (λ (n : k ≡ length starts). omega (arith, ap (slice_index (starts ++ length steps ∷ [])) n, last_start, start_at j (omega arith), kept.within j (omega arith)))
          (split_last k (length starts) (omega (arith, l, length-append starts (length steps ∷ []))));
      before = λ k l. ⊎_elim (earlier k) (last k) (split_last k (length starts) (omega (arith, l, length-append starts (length steps ∷ []))));
      whole = whole_more;
    }
      where
        earlier : (k : ℕ) → k < length starts → IsLevel b.terms (take (slice_index (starts ++ length steps ∷ []) k) b.steps) (facts ++ take k (assumed ++ f ∷ []))
        earlier k m =
            let n = slice_index starts k in
            let s : take (slice_index (starts ++ length steps ∷ []) k) b.steps ≡ take n steps = ap (λ i. take i b.steps) (start_at k m) ∙ sym (take-take n (length steps) b.steps (kept.within k m)) ∙ ap (take n) (front f b x) in
            let a : take k (assumed ++ f ∷ []) ≡ take k assumed = take-append-le k assumed (f ∷ []) (omega (arith, kept.as_many)) in
            subst (λ t. IsLevel t (take (slice_index (starts ++ length steps ∷ []) k) b.steps) (facts ++ take k (assumed ++ f ∷ []))) (sym terms)
            (subst (λ z. IsLevel ts z (facts ++ take k (assumed ++ f ∷ []))) (sym s) (subst (λ z. IsLevel ts (take n steps) (facts ++ z)) (sym a) (kept.before k m)))

        last : (k : ℕ) → k ≡ length starts → IsLevel b.terms (take (slice_index (starts ++ length steps ∷ []) k) b.steps) (facts ++ take k (assumed ++ f ∷ []))
        last k m =
            let s : take (slice_index (starts ++ length steps ∷ []) k) b.steps ≡ steps = ap (λ i. take (slice_index (starts ++ length steps ∷ []) i) b.steps) m ∙ ap (λ i. take i b.steps) last_start ∙ front f b x in
            let a : take k (assumed ++ f ∷ []) ≡ assumed = ap (λ i. take i (assumed ++ f ∷ [])) (m ∙ kept.as_many) ∙ take-append_seam assumed (f ∷ []) in
            subst (λ t. IsLevel t (take (slice_index (starts ++ length steps ∷ []) k) b.steps) (facts ++ take k (assumed ++ f ∷ []))) (sym terms)
            (subst (λ z. IsLevel ts z (facts ++ take k (assumed ++ f ∷ []))) (sym s) (subst (λ z. IsLevel ts steps (facts ++ z)) (sym a) kept.whole))

  -- the last assumption less
  pub kept_less : (last : ℕ) → length starts ≡ last + 1 → AreKept q (take (slice_index starts last) steps) (take last assumed) (take last starts)
  kept_less last m = record {
    question = kept.question;
    truths = λ k d l. subst (λ g. IsTrue (is_truth_below (count ts) g)) (sym (get_or-take last assumed k d (omega (arith, l, length-take-le last assumed (omega (arith, kept.as_many))))))
        (kept.truths k d (omega (arith, l, length-take-le last assumed (omega (arith, kept.as_many)))));
    as_many = length-take-le last starts (omega arith) ∙ sym (length-take-le last assumed (omega (arith, kept.as_many)));
    few = omega (arith, length-take-le last assumed (omega (arith, kept.as_many)), kept.few, kept.as_many);
    within = λ k l. omega (arith, at k l, length-take-le (slice_index starts last) steps (kept.within last (omega arith)), kept.rising k last (below k l) (omega arith));
    rising = λ j k n l. omega (arith, at j (omega arith), at k l, kept.rising j k n (omega (arith, below k l)));
    before = λ k l.
        let s : take (slice_index (take last starts) k) (take (slice_index starts last) steps) ≡ take (slice_index starts k) steps =
        ap (λ n. take n (take (slice_index starts last) steps)) (at k l) ∙ take-take (slice_index starts k) (slice_index starts last) steps (kept.rising k last (below k l) (omega arith)) in
        let a : take k (take last assumed) ≡ take k assumed = take-take k last assumed (omega (arith, below k l)) in
        subst (λ z. IsLevel ts z (facts ++ take k (take last assumed))) (sym s) (subst (λ z. IsLevel ts (take (slice_index starts k) steps) (facts ++ z)) (sym a) (kept.before k (omega (arith, below k l))));
    whole = kept.before last (omega arith);
  }
    where
      below : (k : ℕ) → k < length (take last starts) → k < last
      below k l = omega (arith, l, length-take-le last starts (omega arith))

      at : (k : ℕ) → k < length (take last starts) → slice_index (take last starts) k ≡ slice_index starts k
      at k l = get_or-take last starts k 0 (below k l)

or_assoc : (a b c : Bool) → ((a || b) || c) ≡ (a || (b || c))
or_assoc true b c = refl
or_assoc false b c = refl

-- one fact more is given to a trail that has these besides the first ones
pub given_more : (first : Bool) (facts : List Fact) (xs : List Step) (f g : Fact) → on xs g ≡ (first || is_one_of facts g) → on (with_given xs f) g ≡ (first || is_one_of (facts ++ f ∷ []) g)
given_more first facts xs f g same =
    on-with_given xs f g ∙ ap (λ b. b || is_fact f g) same ∙ or_assoc first (is_one_of facts g) (is_fact f g) ∙ ap (λ b. first || b) (sym (one_of-append facts f g))

pub only_given : (xs : List Step) (f : Fact) → ((h : Fact) → given_on xs h ≡ on xs h) → (g : Fact) → given_on (with_given xs f) g ≡ on (with_given xs f) g
only_given xs f same g = all_given xs f g same ∙ sym (on-with_given xs f g)

pub given-none : (f : Fact) → given_on [] f ≡ false
unfolding given_on
given-none f = refl

-- truth values of terms speak of terms
pub truth_in_range : (ts : Terms) → 2 ≤ count ts → (f : Fact) → is_truth_below (count ts) f ≡ true → in_range (count ts) f ≡ true
truth_in_range ts two (Eq i j) e =
    let t = both_hold (ltb i (count ts)) (ltb j 2) e in
    both_true (ltb i (count ts)) (ltb j (count ts)) t.0 ((Decides-ltb j (count ts)).1 (omega (arith, two, (Decides-ltb j 2).0 t.1)))
truth_in_range ts two (Le i j) e = absurd (cc)

pub truth_below : (n i : ℕ) (b : Bool) → i < n → is_truth_below n (has_truth i b) ≡ true
truth_below n i true l = both_true (ltb i n) (ltb 0 2) ((Decides-ltb i n).1 l) refl
truth_below n i false l = both_true (ltb i n) (ltb 1 2) ((Decides-ltb i n).1 l) refl

-- among truth values of terms there is no order
pub no_order : (n : ℕ) (facts : List Fact) → All (λ f. IsTrue (is_truth_below n f)) facts → (i j : ℕ) → is_one_of facts (Le i j) ≡ false
no_order n [] all i j = is_one_of-none (Le i j)
no_order n (Eq a b ∷ fs) all i j = is_one_of-cons (Eq a b) fs (Le i j) ∙ no_order n fs (λ k d l. all (suc k) d (omega arith)) i j
no_order n (Le a b ∷ fs) all i j = absurd (cc (all 0 (Le a b) (omega arith)))

pub given_in_front : (n : ℕ) (ys : List Step) (f : Fact) → given_on (take n ys) f ≡ true → given_on ys f ≡ true
unfolding given_on
given_in_front n ys f e =
    ap (λ zs. given_on zs f) (sym (take-append-drop n ys)) ∙ list_any-append (λ s. eqb s.rule 0 && is_fact s.fact f) (take n ys) (drop n ys) ∙ first_holds _ _ e

-- a trail without steps
pub only_given_first : (t : Found) (ts : Terms) → t ≡ record { terms = ts; steps = [] } → (f : Fact) → given_on t.steps f ≡ on t.steps f
only_given_first t ts e f = ap (λ (u : Found). given_on u.steps f) e ∙ given-none f ∙ sym (ap (λ (u : Found). on u.steps f) e ∙ on-none f)

pub on_first : (t u : Found) (ts : Terms) (facts : List Fact) → t ≡ record { terms = ts; steps = [] } → ((f : Fact) → on u.steps f ≡ (on t.steps f || is_one_of facts f)) → (f : Fact) → on u.steps f ≡ is_one_of facts f
on_first t u ts facts e all f = all f ∙ ap (λ b. b || is_one_of facts f) (ap (λ (v : Found). on v.steps f) e ∙ on-none f)

-- truth values of terms speak of terms, as those who give them ask
pub truths_within : (ts : Terms) → 2 ≤ count ts → (facts : List Fact) → All (λ f. IsTrue (is_truth_below (count ts) f)) facts → (k : ℕ) → k < length facts → in_range (count ts) (get_or facts k (Eq 0 0)) ≡ true
truths_within ts two facts all k l = truth_in_range ts two (get_or facts k (Eq 0 0)) (all k (Eq 0 0) l)

-- what is given in a trail to which two lists were given, and then steps
pub replay_given : (ts : Terms) (t0 t1 t2 t3 : Found) (given assumed : List Fact) → t0 ≡ record { terms = ts; steps = [] }
    → ((f : Fact) → on t1.steps f ≡ (on t0.steps f || is_one_of given f)) → ((f : Fact) → on t2.steps f ≡ (on t1.steps f || is_one_of assumed f))
    → ((f : Fact) → given_on t2.steps f ≡ on t2.steps f) → Extends t2 t3 → (f : Fact) → given_on t3.steps f ≡ true → is_one_of (given ++ assumed) f ≡ true
replay_given ts t0 t1 t2 t3 given assumed none first second only x f e =
    is_one_of-append given assumed f ∙ ap (λ b. b || is_one_of assumed f) (sym (on_first t0 t1 ts given none first f)) ∙ sym (second f) ∙ sym (only f) ∙ sym (x.given_same f) ∙ e
