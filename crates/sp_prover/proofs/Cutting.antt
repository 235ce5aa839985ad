-- What an open branch has.
use Rattle.std.proofs.Common.{◌≡◌, ℕ, zero, suc, ◌<◌, ◌⊎◌, Bool, true, false, List, length, refl, sym, ap, ◌∙◌, subst, ⊎_elim, arith}
use Rattle.std.specs.Prelude.{slice_index, nat_lt}
use Rattle.sp_rules.specs.Terms.{Terms, count}
use Rattle.sp_rules.specs.Branches.{IsOpen, valued, with_values}
use Rattle.sp_rules.specs.Facts.{has_truth, is_fact}
use Rattle.sp_rules.specs.Follows.{Follows, start, step}
use Rattle.sp_rules.specs.Table.{in_range}
use Rattle.sp_rules.specs.declared.fact.Fact.{Fact}
use Rattle.sp_rules.specs.declared.fact.Fact.TheVariants.{Eq}
use Rattle.sp_rules.proofs.FactLemmas.{both_hold, both_true, first_holds, is_fact-itself, second_holds}
use Rattle.sp_prover.specs.Deciding.{HasTruths}

pub value_in : (atoms : List ℕ) (v : ℕ → Bool) (given : Fact → Bool) (n k : ℕ) → k < n → with_values atoms v n given (has_truth (slice_index atoms k) (v k)) ≡ true
value_in atoms v given zero k l = absurd (omega arith)
value_in atoms v given (suc n) k l =
    ⊎_elim (λ (s : k < n). second_holds _ _ (value_in atoms v given n k s))
    (λ (s : k ≡ n). first_holds _ _ (ap (λ x. is_fact (has_truth (slice_index atoms x) (v x)) (has_truth (slice_index atoms k) (v k))) (sym s) ∙ is_fact-itself (has_truth (slice_index atoms k) (v k))))
    (apart k n l)
  where
    apart : (k n : ℕ) → k < suc n → (k < n) ⊎ (k ≡ n)
    apart k n l = grind arith

pub given_in : (atoms : List ℕ) (v : ℕ → Bool) (given : Fact → Bool) (n : ℕ) (f : Fact) → given f ≡ true → with_values atoms v n given f ≡ true
given_in atoms v given zero f e = e
given_in atoms v given (suc n) f e = second_holds _ _ (given_in atoms v given n f e)

-- two equalities with 0 and 1 clash
module _ (ts : Terms) (given : Fact → Bool) (clash : HasTruths ts) where
  range : in_range (count ts) (Eq 0 1) ≡ true
  range = (both_hold _ _ clash).0

  first_term : nat_lt 0 (count ts) ≡ true
  first_term = (both_hold _ _ range).0

  second_term : nat_lt 1 (count ts) ≡ true
  second_term = (both_hold _ _ range).1

  -- a term that is TRUE and FALSE
  pub both_truths : (t : ℕ) → nat_lt t (count ts) ≡ true → Follows ts given (Eq t 0) → Follows ts given (Eq t 1) → Follows ts given (Eq 0 1)
  both_truths t l a b =
      step (record { fact = Eq 0 1; rule = 3; p = t; q = 0 }) true (both_true _ _ (both_true _ _ range l) first_term) refl
      (λ f p. ⊎_elim (λ (e : f ≡ Eq 0 t). subst (Follows ts given) (sym e) turned) (λ (e : f ≡ Eq t 1). subst (Follows ts given) (sym e) b) p)
    where
      turned : Follows ts given (Eq 0 t)
      turned =
          step (record { fact = Eq 0 t; rule = 2; p = 0; q = 0 }) true (both_true _ _ (both_true _ _ (both_true _ _ first_term l) first_term) first_term) refl
          (λ f (e : f ≡ Eq t 0). subst (Follows ts given) (sym e) a)

pub forced : (ts : Terms) (atoms : List ℕ) (given : Fact → Bool) (v : ℕ → Bool) → HasTruths ts → IsOpen ts atoms given v → ((k : ℕ) → k < length atoms → nat_lt (slice_index atoms k) (count ts) ≡ true)
    → (k : ℕ) (b : Bool) → k < length atoms → Follows ts (valued atoms v given) (has_truth (slice_index atoms k) b) → v k ≡ b
forced ts atoms given v clash is_open within k b l follows = by (v k) b refl follows
  where
    G : Fact → Bool
    G = valued atoms v given

    assumed : (c : Bool) → v k ≡ c → Follows ts G (has_truth (slice_index atoms k) c)
    assumed c e = subst (λ x. Follows ts G (has_truth (slice_index atoms k) x)) e (start (value_in atoms v given (length atoms) k l))

    by : (c b : Bool) → v k ≡ c → Follows ts G (has_truth (slice_index atoms k) b) → v k ≡ b
    by true true e t = e
    by false false e t = e
    by true false e t = absurd (is_open (Eq 0 1, clash, both_truths ts G clash (slice_index atoms k) (within k l) (assumed true e) t))
    by false true e t = absurd (is_open (Eq 0 1, clash, both_truths ts G clash (slice_index atoms k) (within k l) t (assumed false e)))
