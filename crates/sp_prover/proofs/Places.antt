-- Which atoms are determined where the search stands.
use Rattle.std.proofs.Common.{◌≡◌, ℕ, ◌+◌, ◌<◌, ◌≤◌, ◌⊎◌, Bool, List, [], ◌∷◌, ◌++◌, length, refl, sym, ap, ◌∙◌, subst, inl, inr, ⊎_elim, arith}
use Rattle.std.specs.Prelude.{slice_index}
use Rattle.std.proofs.lemmas.List.{length-append, get_or_append_left}
use Rattle.std.proofs.Math.Seq.{get_or-append_seam}
use Rattle.sp_rules.specs.Facts.{has_truth}
use Rattle.sp_rules.specs.Questions.{IsQuestion}
use Rattle.sp_rules.specs.Terms.{Terms}
use Rattle.sp_rules.specs.declared.fact.Fact.{Fact}
use Rattle.sp_saturate.specs.Situations.{Situation, assuming, supposed}
use Rattle.sp_prover.specs.Deciding.{AreUndetermined, AreUndeterminedBelow, HasTruths, IsDetermined}
use Rattle.sp_prover.specs.Exploring.{IsPrepared, IsSettled, atom_at}
use Rattle.sp_prover.proofs.Firsts.{assumed_settled, settled_below}

below_or_above : (i m : ℕ) → (i < m) ⊎ ((i ≡ m) ⊎ (m < i))
below_or_above i m = grind arith

module _ (s : Situation) (places : List ℕ) (at : ℕ) (p : IsPrepared s places at) (next : ℕ) (above : at ≤ next) (settled : (i : ℕ) → at ≤ i → i < next → IsSettled s (slice_index places i)) where
  abbrev n : ℕ
  n = length s.question.atoms

  abbrev Place : ℕ → Type 0
  Place k = (i : ℕ) × (at ≤ i) × (i < length places) × (slice_index places i ≡ k)

  -- the atoms before the next place are settled
  pub before_next : next < length places → (k : ℕ) → k < slice_index places next → k < n → IsSettled s k
  before_next l k m here =
      ⊎_elim (λ (d : IsSettled s k). d)
      (λ (r : Place k).
      ⊎_elim (λ (b : r.0 < next). subst (IsSettled s) r.3 (settled r.0 r.1 b))
      (λ (b : (r.0 ≡ next) ⊎ (next < r.0)). absurd (too_far r.0 r.2 r.3 b)) (below_or_above r.0 next))
      (p.rest k here)
    where
      too_far : (i : ℕ) → i < length places → slice_index places i ≡ k → (i ≡ next) ⊎ (next < i) → ⊥
      too_far i n e b =
          ⊎_elim (λ (c : i ≡ next). let d : slice_index places i ≡ slice_index places next = ap (slice_index places) c in omega (arith, d, e, m)) (λ (c : next < i). let d = p.chosen.rising next i c n in omega (arith, d, e, m)) b

  pub all_before : next ≡ length places → (k : ℕ) → k < n → IsSettled s k
  all_before e k here =
      ⊎_elim (λ (d : IsSettled s k). d) (λ (r : Place k). subst (IsSettled s) r.3 (settled r.0 r.1 (omega (arith, e, r.2)))) (p.rest k here)

  pub prepared_next : next < length places → (b : Bool) → IsPrepared (assuming s (slice_index places next) b) places (next + 1)
  prepared_next l b = record {
    truths = p.truths;
    question = p.question;
    few_atoms = p.few_atoms;
    chosen = p.chosen;
    place = omega arith;
    assumed = omega (arith, length-append s.assumed (has_truth (atom_at s a) b ∷ []), p.assumed, above);
    rest = λ k here. ⊎_elim (λ (d : IsSettled s k). inl (settled_below s a b k d))
        (λ (r : Place k).
        ⊎_elim (λ (c : r.0 < next). inl (settled_below s a b k (subst (IsSettled s) r.3 (settled r.0 r.1 c))))
        (λ (c : (r.0 ≡ next) ⊎ (next < r.0)).
        ⊎_elim (λ (d : r.0 ≡ next). inl (subst (IsSettled (assuming s a b)) (sym (ap (slice_index places) d) ∙ r.3) (assumed_settled s a b)))
        (λ (d : next < r.0). inr (r.0, omega (arith, d), r.2, r.3)) c) (below_or_above r.0 next))
        (p.rest k here);
  }
    where
      a : ℕ
      a = slice_index places next

pub prepared_first : (s : Situation) (places : List ℕ) → HasTruths s.question.terms → IsQuestion s.question → length s.question.atoms ≤ 512 → AreUndetermined s.question.terms (supposed s) s.question.atoms places → length places ≤ 20 → s.assumed ≡ [] → IsPrepared s places 0
prepared_first s places truths question few_atoms u few none = record {
  truths = truths;
  question = question;
  few_atoms = few_atoms;
  chosen = record { within = u.within; rising = u.rising; few = few };
  place = omega arith;
  assumed = let e : length s.assumed ≡ 0 = ap length none in omega (arith, e);
  rest = λ k l. ⊎_elim (λ (d : IsSettled s k). inl d) (λ (r : (i : ℕ) × (i < length places) × (slice_index places i ≡ k)). inr (r.0, omega arith, r.1, r.2)) (u.all k l);
}

-- the list of undetermined atoms, atom by atom
pub none_below : (ts : Terms) (h : Fact → Bool) (atoms : List ℕ) → AreUndeterminedBelow ts h atoms 0 []
none_below ts h atoms = record { within = λ i l. absurd (omega arith); rising = λ i j l m. absurd (omega arith); free = λ i l. absurd (omega arith); all = λ k l. absurd (omega arith) }

last_or_below : (k n : ℕ) → k < n + 1 → (k < n) ⊎ (k ≡ n)
last_or_below k n l = grind arith

pub determined_next : (ts : Terms) (h : Fact → Bool) (atoms : List ℕ) (n : ℕ) (places : List ℕ) → AreUndeterminedBelow ts h atoms n places → IsDetermined ts h (slice_index atoms n) → AreUndeterminedBelow ts h atoms (n + 1) places
determined_next ts h atoms n places u d = record {
  within = λ i l. let w = u.within i l in omega (arith, w);
  rising = u.rising;
  free = u.free;
  all = λ k l. ⊎_elim (λ (m : k < n). u.all k m) (λ (m : k ≡ n). inl (subst (λ x. IsDetermined ts h (slice_index atoms x)) (sym m) d)) (last_or_below k n l);
}

module _ (places : List ℕ) (n : ℕ) where
  there : (i : ℕ) → i < length places → slice_index (places ++ n ∷ []) i ≡ slice_index places i
  there i l = get_or_append_left places (n ∷ []) 0 i l

  here : (i : ℕ) → i ≡ length places → slice_index (places ++ n ∷ []) i ≡ n
  here i e = ap (slice_index (places ++ n ∷ [])) e ∙ get_or-append_seam places n [] 0

pub undetermined_next : (ts : Terms) (h : Fact → Bool) (atoms : List ℕ) (n : ℕ) (places : List ℕ) → AreUndeterminedBelow ts h atoms n places → (IsDetermined ts h (slice_index atoms n) → ⊥) → AreUndeterminedBelow ts h atoms (n + 1) (places ++ n ∷ [])
undetermined_next ts h atoms n places u d = record {
  within = λ i l. ⊎_elim (λ (m : i < length places). let w = u.within i m in let e = there places n i m in omega (arith, w, e)) (λ (m : i ≡ length places). let e = here places n i m in omega (arith, e)) (split i l);
  rising = λ i j l m. ⊎_elim (λ (q : j < length places). let w = u.rising i j l q in let a = there places n i (omega (arith, l, q)) in let b = there places n j q in omega (arith, w, a, b))
      (λ (q : j ≡ length places). let r : i < length places = omega (arith, l, q) in let w = u.within i r in let a = there places n i r in let b = here places n j q in omega (arith, w, a, b)) (split j m);
  free = λ i l. ⊎_elim (λ (m : i < length places). λ (f : IsDetermined ts h (slice_index atoms (slice_index (places ++ n ∷ []) i))). u.free i m (subst (λ x. IsDetermined ts h (slice_index atoms x)) (there places n i m) f))
      (λ (m : i ≡ length places). λ (f : IsDetermined ts h (slice_index atoms (slice_index (places ++ n ∷ []) i))). d (subst (λ x. IsDetermined ts h (slice_index atoms x)) (here places n i m) f)) (split i l);
  all = λ k l. ⊎_elim (λ (m : k < n). ⊎_elim (λ (f : IsDetermined ts h (slice_index atoms k)). inl f) (λ (r : (i : ℕ) × (i < length places) × (slice_index places i ≡ k)). inr (r.0, long r.0 r.1, there places n r.0 r.1 ∙ r.2)) (u.all k m))
      (λ (m : k ≡ n). inr (length places, last, here places n (length places) refl ∙ sym m)) (last_or_below k n l);
}
  where
    split : (i : ℕ) → i < length (places ++ n ∷ []) → (i < length places) ⊎ (i ≡ length places)
    split i l = last_or_below i (length places) (omega (arith, l, length-append places (n ∷ [])))

    long : (i : ℕ) → i < length places → i < length (places ++ n ∷ [])
    long i l = omega (arith, l, length-append places (n ∷ []))

    last : length places < length (places ++ n ∷ [])
    last = omega (arith, length-append places (n ∷ []))
