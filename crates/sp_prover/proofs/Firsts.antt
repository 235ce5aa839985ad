-- What an answer below one more assumption says below the assumptions before it.
use Rattle.std.proofs.Common.{◌≡◌, ℕ, zero, suc, ◌+◌, ◌*◌, ◌<◌, ◌≤◌, ◌↔◌, ◌||◌, Bool, true, false, List, [], ◌∷◌, ◌++◌, length, refl, sym, ap, ◌∙◌, subst, inl, inr, ⊎_elim, arith}
use Rattle.std.specs.Prelude.{nat_lt}
use Rattle.std.proofs.lemmas.Bool.Decides.{Decides-ltb}
use Rattle.std.proofs.lemmas.List.{length-append, append_assoc}
use Rattle.std.proofs.Math.Nat.{mul-le-mul_left}
use Rattle.std.proofs.Math.Path.{fun_ext}
use Rattle.sp_rules.specs.Branches.{with_values, valued}
use Rattle.sp_rules.specs.Facts.{has_truth, is_fact, is_one_of, with_fact}
use Rattle.sp_rules.specs.Follows.{start}
use Rattle.sp_rules.specs.Laws.{AreIn, EachFollows}
use Rattle.sp_rules.specs.Questions.{IsQuestion}
use Rattle.sp_rules.specs.Terms.{Terms, count}
use Rattle.sp_rules.specs.declared.fact.Fact.{Fact}
use Rattle.sp_rules.specs.declared.fact.Fact.TheVariants.{Eq}
use Rattle.sp_rules.specs.declared.fact.Step.{Step}
use Rattle.sp_rules.proofs.FactLemmas.{first_holds, is_fact-itself, is_fact-true, is_one_of-append, is_one_of-cons, is_one_of-none, one_holds, or_false, second_holds}
use Rattle.sp_rules.proofs.Steps.{follows_from, follows_more}
use Rattle.sp_saturate.specs.Accepted.{AreAccepted, EndInClash}
use Rattle.sp_saturate.specs.Situations.{IsFollowing, Situation, assuming, supposed}
use Rattle.sp_cert.specs.Checks.{count_all, count_nodes, fault, next}
use Rattle.sp_cert.specs.Tree.{Tree, Split, Leaf}
use Rattle.sp_cert.specs.Within.{IsTree}
use Rattle.sp_checker.specs.Known.{judge}
use Rattle.sp_claims.specs.Laws.{IsOpenIn}
use Rattle.sp_prover.specs.Deciding.{HasTruths, SplitsUndetermined, no_fault}
use Rattle.sp_prover.specs.Exploring.{Allows, IsClosed, IsFirst, IsRefuted, IsSettled, atom_at}
use Rattle.sp_prover.specs.Order.{IsNotAfter}
use Rattle.sp_prover.proofs.Checking.{leaf_checks, split_checks}
use Rattle.sp_prover.proofs.Cutting.{both_truths, forced, value_in}
use Rattle.sp_prover.proofs.Spelled.{steps_spelled}

swap : (a b : Bool) → (a || b) ≡ (b || a)
swap true true = refl
swap true false = refl
swap false true = refl
swap false false = refl

one_of-last : (xs : List Fact) (g f : Fact) → is_one_of (xs ++ g ∷ []) f ≡ (is_one_of xs f || is_fact g f)
one_of-last xs g f =
    is_one_of-append xs (g ∷ []) f
    ∙ ap (λ b. is_one_of xs f || b) (is_one_of-cons g [] f ∙ ap (λ b. is_fact g f || b) (is_one_of-none f) ∙ or_false (is_fact g f))

-- one assumption more is one fact more
pub one_more : (s : Situation) (a : ℕ) (b : Bool) (f : Fact) → supposed (assuming s a b) f ≡ with_fact (has_truth (atom_at s a) b) (supposed s) f
one_more s a b f =
    ap (λ fs. is_one_of fs f) (sym (append_assoc s.question.given s.assumed (has_truth (atom_at s a) b ∷ [])))
    ∙ one_of-last (s.question.given ++ s.assumed) (has_truth (atom_at s a) b) f
    ∙ swap (supposed s f) (is_fact (has_truth (atom_at s a) b) f)

pub are_more : (s : Situation) (a : ℕ) (b : Bool) → AreIn (supposed s) (supposed (assuming s a b))
are_more s a b f e = one_more s a b f ∙ second_holds (is_fact (has_truth (atom_at s a) b) f) _ e

pub is_assumed : (s : Situation) (a : ℕ) (b : Bool) → IsFollowing (assuming s a b) (has_truth (atom_at s a) b)
is_assumed s a b = start (one_more s a b (has_truth (atom_at s a) b) ∙ first_holds _ (supposed s (has_truth (atom_at s a) b)) (is_fact-itself (has_truth (atom_at s a) b)))

pub follows_below : (s : Situation) (a : ℕ) (b : Bool) (f : Fact) → IsFollowing s f → IsFollowing (assuming s a b) f
follows_below s a b f w = follows_more s.question.terms (supposed s) (supposed (assuming s a b)) (are_more s a b) f w

pub settled_below : (s : Situation) (a : ℕ) (b : Bool) (k : ℕ) → IsSettled s k → IsSettled (assuming s a b) k
settled_below s a b k d =
    ⊎_elim (λ (w : IsFollowing s (has_truth (atom_at s k) true)). inl (follows_below s a b (has_truth (atom_at s k) true) w))
    (λ (w : IsFollowing s (has_truth (atom_at s k) false)). inr (follows_below s a b (has_truth (atom_at s k) false) w)) d

pub assumed_settled : (s : Situation) (a : ℕ) (b : Bool) → IsSettled (assuming s a b) a
assumed_settled s a true = inl (is_assumed s a true)
assumed_settled s a false = inr (is_assumed s a false)

module _ (s : Situation) where
  abbrev ts : Terms
  ts = s.question.terms

  abbrev atoms : List ℕ
  atoms = s.question.atoms

  abbrev given : Fact → Bool
  given = is_one_of s.question.given

  abbrev n : ℕ
  n = length atoms

  pub allows_more : (a : ℕ) (b : Bool) (w : ℕ → Bool) → a < n → w a ≡ b → Allows s w → Allows (assuming s a b) w
  allows_more a b w l e allows f h =
      ⊎_elim (λ (c : is_fact (has_truth (atom_at s a) b) f ≡ true). ap (valued atoms w given) (sym (is_fact-true (has_truth (atom_at s a) b) f c)) ∙ subst (λ x. valued atoms w given (has_truth (atom_at s a) x) ≡ true) e (value_in atoms w given n a l))
      (λ (c : supposed s f ≡ true). allows f c)
      (one_holds _ _ (sym (one_more s a b f) ∙ h))

  clash_under : (w : ℕ → Bool) → Allows s w → IsClosed s → IsOpenIn s.question w → ⊥
  clash_under w allows clash is_open = is_open (clash.0, clash.1, follows_more ts (supposed s) (valued atoms w given) allows clash.0 clash.2)

  square_within : (c : ℕ) → c ≤ 512 → 2 * (c * c) ≤ 524288
  square_within c l = omega (arith, l, mul-le-mul_left c l)

  pub leaf_refuted : (ss : List Step) → IsQuestion s.question → length s.assumed ≤ 20 → AreAccepted ts (supposed s) ss → length ss ≤ 2 * (count ts * count ts) → EndInClash ts ss → IsClosed s → IsRefuted s (Leaf ss)
  leaf_refuted ss question few accepted few_steps end clash = record {
    checks = λ nodes steps. leaf_checks ts atoms (supposed s) (length s.assumed) ss few accepted end nodes steps;
    plain = tt;
    short = let m = square_within (count ts) question.small.few in omega (arith, m, few_steps);
    lean = tt;
    spelled = λ v b e. (let m = square_within (count ts) question.small.few in omega (arith, m, few_steps), steps_spelled ts (supposed s) question.small.few ss accepted);
    closed = λ w allows is_open. clash_under w allows clash is_open;
  }

  -- what is assumed and one value more, as one set
  more_is : (a : ℕ) (b : Bool) → supposed (assuming s a b) ≡ with_fact (has_truth (atom_at s a) b) (supposed s)
  more_is a b = fun_ext (λ f. one_more s a b f)

  -- a tree that checks below one more assumption
  below : (a : ℕ) (b : Bool) (t : Tree) → IsRefuted (assuming s a b) t → (nodes steps : ℕ) → fault (judge ts atoms) t (with_fact (has_truth (atom_at s a) b) (supposed s)) (length s.assumed + 1) nodes steps ≡ no_fault
  below a b t r nodes steps =
      subst (λ (h : Fact → Bool). fault (judge ts atoms) t h (length s.assumed + 1) nodes steps ≡ no_fault) (more_is a b)
      (subst (λ d. fault (judge ts atoms) t (supposed (assuming s a b)) d nodes steps ≡ no_fault) (length-append s.assumed (has_truth (atom_at s a) b ∷ [])) (r.checks nodes steps))

  lean_below : (a : ℕ) (b : Bool) (t : Tree) → IsRefuted (assuming s a b) t → SplitsUndetermined ts atoms (with_fact (has_truth (atom_at s a) b) (supposed s)) t
  lean_below a b t r = subst (λ (h : Fact → Bool). SplitsUndetermined ts atoms h t) (more_is a b) r.lean

  -- each half can be spelled below one split more
  split_spelled : (a : ℕ) (t f : Tree) → a < n → n ≤ 512 → length s.assumed < 20 → IsRefuted (assuming s a true) t → IsRefuted (assuming s a false) f → (v b : ℕ) → 20 ≤ b + length s.assumed → IsTree v b (Split a t f)
  split_spelled a t f l few_atoms few left right v zero e = absurd (omega (arith, e, few))
  split_spelled a t f l few_atoms few left right v (suc b) e = (
    omega (arith, l, few_atoms),
    left.spelled v b (omega (arith, e, length-append s.assumed (has_truth (atom_at s a) true ∷ []))),
    right.spelled v b (omega (arith, e, length-append s.assumed (has_truth (atom_at s a) false ∷ []))),
  )

  pub split_refuted : (a : ℕ) (t f : Tree) → a < n → n ≤ 512 → length s.assumed < 20 → (IsSettled s a → ⊥) → IsRefuted (assuming s a true) t → IsRefuted (assuming s a false) f → IsRefuted s (Split a t f)
  split_refuted a t f l few_atoms few free left right = record {
    checks = λ nodes steps. split_checks ts atoms (supposed s) (length s.assumed) a t f nodes steps (omega (arith, few)) l (below a true t left (next nodes) steps)
        (below a false f right (count_nodes (next nodes) t) (count_all steps t));
    plain = (left.plain, right.plain);
    short = (left.short, right.short);
    lean = (free, lean_below a true t left, lean_below a false f right);
    spelled = λ v b e. split_spelled a t f l few_atoms few left right v b e;
    closed = λ w allows is_open. by w allows is_open (w a) refl;
  }
    where
      by : (w : ℕ → Bool) → Allows s w → IsOpenIn s.question w → (b : Bool) → w a ≡ b → ⊥
      by w allows is_open true e = left.closed w (allows_more a true w l e allows) is_open
      by w allows is_open false e = right.closed w (allows_more a false w l e allows) is_open

  -- each atom is a term
  atom_in : IsQuestion s.question → (k : ℕ) → k < n → nat_lt (atom_at s k) (count ts) ≡ true
  atom_in question k l = (Decides-ltb (atom_at s k) (count ts)).1 (question.atoms k 0 l)

  pub forced_here : HasTruths ts → IsQuestion s.question → (w : ℕ → Bool) → IsOpenIn s.question w → Allows s w → (k : ℕ) (b : Bool) → k < n → IsFollowing s (has_truth (atom_at s k) b) → w k ≡ b
  forced_here truths question w is_open allows k b l follows =
      forced ts atoms given w truths is_open (atom_in question) k b l
      (follows_more ts (supposed s) (valued atoms w given) allows (has_truth (atom_at s k) b) follows)

  pub first_true : (a : ℕ) (v : ℕ → Bool) → HasTruths ts → IsQuestion s.question → a < n → ((k : ℕ) → k < a → IsSettled s k) → IsFirst (assuming s a true) v → IsFirst s v
  first_true a v truths question l settled r = record {
    is_open = r.is_open;
    keeps = λ k b m w. r.keeps k b m (follows_below s a true (has_truth (atom_at s k) b) w);
    least = λ w is_open allows. by w is_open allows (w a) refl;
  }
    where
      agree : (w : ℕ → Bool) → IsOpenIn s.question w → Allows s w → (k : ℕ) → k < a → IsSettled s k → v k ≡ w k
      agree w is_open allows k m d =
          ⊎_elim (λ (f : IsFollowing s (has_truth (atom_at s k) true)). r.keeps k true (omega arith) (follows_below s a true (has_truth (atom_at s k) true) f) ∙ sym (forced_here truths question w is_open allows k true (omega arith) f))
          (λ (f : IsFollowing s (has_truth (atom_at s k) false)). r.keeps k false (omega arith) (follows_below s a true (has_truth (atom_at s k) false) f) ∙ sym (forced_here truths question w is_open allows k false (omega arith) f)) d

      by : (w : ℕ → Bool) → IsOpenIn s.question w → Allows s w → (b : Bool) → w a ≡ b → IsNotAfter n v w
      by w is_open allows true e = r.least w is_open (allows_more a true w l e allows)
      by w is_open allows false e = inr (a, l, (λ k m. agree w is_open allows k m (settled k m)), r.keeps a true l (is_assumed s a true), e)

  pub first_false : (a : ℕ) (t : Tree) (v : ℕ → Bool) → a < n → IsRefuted (assuming s a true) t → IsFirst (assuming s a false) v → IsFirst s v
  first_false a t v l refuted r = record {
    is_open = r.is_open;
    keeps = λ k b m w. r.keeps k b m (follows_below s a false (has_truth (atom_at s k) b) w);
    least = λ w is_open allows. by w is_open allows (w a) refl;
  }
    where
      by : (w : ℕ → Bool) → IsOpenIn s.question w → Allows s w → (b : Bool) → w a ≡ b → IsNotAfter n v w
      by w is_open allows true e = absurd (refuted.closed w (allows_more a true w l e allows) is_open)
      by w is_open allows false e = r.least w is_open (allows_more a false w l e allows)

  pub first_all : (v : ℕ → Bool) → HasTruths ts → IsQuestion s.question → (IsClosed s → ⊥) → ((k : ℕ) → k < n → IsSettled s k) → ((k : ℕ) → k < n → (v k ≡ true) ↔ IsFollowing s (has_truth (atom_at s k) true)) → IsFirst s v
  first_all v truths question calm settled values = record {
    is_open = λ clash. calm (clash.0, clash.1, follows_from ts (supposed s) (valued atoms v given) (each n (omega arith)) clash.0 clash.2);
    keeps = λ k b l w. kept k b (v k) l refl w;
    least = λ w is_open allows. inl (λ k l. sym (forced_here truths question w is_open allows k (v k) l (value_follows k (v k) l refl)));
  }
    where
      kept : (k : ℕ) (b c : Bool) → k < n → v k ≡ c → IsFollowing s (has_truth (atom_at s k) b) → v k ≡ b
      kept k true c l e w = (values k l).1 w
      kept k false false l e w = e
      kept k false true l e w = absurd (calm (Eq 0 1, truths, both_truths ts (supposed s) truths (atom_at s k) (atom_in question k l) ((values k l).0 e) w))

      value_follows : (k : ℕ) (c : Bool) → k < n → v k ≡ c → IsFollowing s (has_truth (atom_at s k) (v k))
      value_follows k true l e = subst (λ x. IsFollowing s (has_truth (atom_at s k) x)) (sym e) ((values k l).0 e)
      value_follows k false l e =
          ⊎_elim (λ (f : IsFollowing s (has_truth (atom_at s k) true)). absurd (cc (sym e ∙ (values k l).1 f)))
          (λ (f : IsFollowing s (has_truth (atom_at s k) false)). subst (λ x. IsFollowing s (has_truth (atom_at s k) x)) (sym e) f) (settled k l)

      each : (m : ℕ) → m ≤ n → EachFollows ts (supposed s) (with_values atoms v m given)
      each zero l f e = start (is_one_of-append s.question.given s.assumed f ∙ first_holds _ _ e)
      each (suc m) l f e =
          ⊎_elim (λ (c : is_fact (has_truth (atom_at s m) (v m)) f ≡ true). subst (IsFollowing s) (is_fact-true (has_truth (atom_at s m) (v m)) f c) (value_follows m (v m) (omega arith) refl))
          (λ (c : with_values atoms v m given f ≡ true). each m (omega arith) f c) (one_holds _ _ e)
