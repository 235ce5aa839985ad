-- Where a certificate checks, there is a clash under each choice of the atoms' values.
use Rattle.std.proofs.Common.{◌≡◌, ℕ, zero, suc, ◌+◌, ◌<◌, ◌⊎◌, ◌||◌, Bool, true, false, cond, ltb, List, [], ◌∷◌, length, Option, Some, None, refl, sym, ap, ◌∙◌, subst, ⊎_elim, arith}
use Rattle.std.specs.Prelude.{slice_index}
use Rattle.std.proofs.lemmas.Bool.Decides.{Decides-ltb}
use Rattle.sp_rules.specs.Terms.{Terms}
use Rattle.sp_rules.specs.Follows.{Follows, start}
use Rattle.sp_rules.specs.Table.{lack_of}
use Rattle.sp_rules.specs.declared.fact.Fact.{Fact}
use Rattle.sp_rules.specs.declared.fact.Lack.{Lack}
use Rattle.sp_rules.specs.declared.fact.Step.{Step}
use Rattle.sp_rules.proofs.Steps.{sound}
use Rattle.sp_rules.specs.Facts.{has_truth, is_fact, with_fact}
use Rattle.sp_rules.specs.Laws.{EachFollows}
use Rattle.sp_rules.proofs.FactLemmas.{is_fact-true, is_fact-itself, one_holds, second_holds}
use Rattle.sp_cert.specs.declared.cert.CertFault.{CertFault}
use Rattle.sp_cert.specs.declared.cert.CertFault.TheVariants.{NotAnAtom, TooDeep, NoClash}
use Rattle.sp_cert.specs.Tree.{Tree, Split, Leaf, Steps}
use Rattle.sp_cert.specs.Checks.{Facts, Judge, next, with_steps, count_steps, bad_or, bad_step, ends_in_clash, leaf_fault, first_of, fault, first_fault}
use Rattle.sp_rules.specs.Facts.{with_fact}
use Rattle.sp_rules.specs.Branches.{with_values, HasClash, IsOpen}
use Rattle.sp_rules.specs.Clash.{is_clash}
use Rattle.sp_checker.specs.Known.{judge}
use Rattle.sp_checker.proofs.Faults.{true_branch, false_branch}

abbrev no_fault : Option CertFault
no_fault = None

both_none : (a b : Option CertFault) → first_of a b ≡ no_fault → (a ≡ no_fault) × (b ≡ no_fault)
both_none None b e = (refl, e)
both_none (Some f) b e = absurd (cc)

passed : (b : Bool) (f : CertFault) (o : Option CertFault) → cond b (Some f) o ≡ no_fault → o ≡ no_fault
passed true f o e = absurd (cc)
passed false f o e = e

passed_test : (b : Bool) (f : CertFault) (o : Option CertFault) → cond b o (Some f) ≡ no_fault → (b ≡ true) × (o ≡ no_fault)
passed_test true f o e = (refl, e)
passed_test false f o e = absurd (cc)

lacks_none : (o : Option Lack) (n : ℕ) (r : Option CertFault) → bad_or o n r ≡ no_fault → (o ≡ None) × (r ≡ no_fault)
lacks_none None n r e = (refl, e)
lacks_none (Some l) n r e = absurd (cc)

module _ (ts : Terms) (atoms : List ℕ) (given : Facts) where
  abbrev j : Judge
  j = judge ts atoms

  one_more : (h : Facts) (f : Fact) → Follows ts given f → EachFollows ts given h → EachFollows ts given (with_fact f h)
  one_more h f follows each g e = ⊎_elim (λ t. subst (Follows ts given) (is_fact-true f g t) follows) (λ t. each g t) (one_holds (is_fact f g) (h g) e)

  -- the facts of steps that lack nothing follow
  pub steps_follow : (h : Facts) (n : ℕ) (ss : List Step) → EachFollows ts given h → bad_step j h n ss ≡ no_fault → EachFollows ts given (with_steps ss h)
  steps_follow h n [] each e = each
  steps_follow h n (s ∷ ss) each e =
      let k = lacks_none (lack_of ts h s) (next n) (bad_step j (with_fact s.fact h) (next n) ss) e in
      steps_follow (with_fact s.fact h) (next n) ss (one_more h s.fact (sound ts given h each s k.0) each) k.1

  steps_clash : (h : Facts) (n : ℕ) (c : Bool) (ss : List Step) → EachFollows ts given h → (c ≡ true → HasClash ts given) → bad_step j h n ss ≡ no_fault → ends_in_clash j c ss ≡ true → HasClash ts given
  steps_clash h n c [] each last e f = last f
  steps_clash h n c (s ∷ ss) each last e f =
      let k = lacks_none (lack_of ts h s) (next n) (bad_step j (with_fact s.fact h) (next n) ss) e in
      let follows = sound ts given h each s k.0 in
      steps_clash (with_fact s.fact h) (next n) (is_clash ts s.fact) ss (one_more h s.fact follows each) (λ t. (s.fact, t, follows)) k.1 f

  leaf_clash : (h : Facts) (node n : ℕ) (ss : List Step) → EachFollows ts given h → leaf_fault j h node n ss ≡ no_fault → HasClash ts given
  leaf_clash h node n ss each e =
      let k = both_none (bad_step j h n ss) (cond (ends_in_clash j false ss) no_fault (Some (NoClash node))) e in
      steps_clash h n false ss each (λ t. absurd (cc)) k.0 (passed_test (ends_in_clash j false ss) (NoClash node) no_fault k.1).0

  -- the values of the atoms are given
  module _ (v : ℕ → Bool) (valued : (k : ℕ) → k < length atoms → given (has_truth (slice_index atoms k) (v k)) ≡ true) where
    valued_at : (a : ℕ) (b : Bool) → a < length atoms → v a ≡ b → Follows ts given (has_truth (slice_index atoms a) b)
    valued_at a b l e = subst (λ x. Follows ts given (has_truth (slice_index atoms a) x)) e (start (valued a l))

    by_value : (a : ℕ) (h : Facts) (b : Bool) → EachFollows ts given h → v a ≡ b → a < length atoms → (EachFollows ts given (with_fact (has_truth (slice_index atoms a) true) h) → HasClash ts given)
        → (EachFollows ts given (with_fact (has_truth (slice_index atoms a) false) h) → HasClash ts given) → HasClash ts given
    by_value a h true each w l left right = left (one_more h (has_truth (slice_index atoms a) true) (valued_at a true l w) each)
    by_value a h false each w l left right = right (one_more h (has_truth (slice_index atoms a) false) (valued_at a false l w) each)

    tree_clash : (t : Tree) (h : Facts) (depth nodes n : ℕ) → EachFollows ts given h → fault j t h depth nodes n ≡ no_fault → HasClash ts given
    tree_clash (Leaf ss) h depth nodes n each e = leaf_clash h (next nodes) n ss each (passed (ltb 20 depth) (TooDeep (next nodes)) (leaf_fault j h (next nodes) n ss) e)
    tree_clash (Split a t f) h depth nodes n each e =
        let left = true_branch j a t h depth nodes n in
        let right = false_branch j a t f h depth nodes n in
        let c = passed_test (ltb a (length atoms)) (NotAnAtom (next nodes)) (first_of left right) (passed (ltb 20 depth) (TooDeep (next nodes)) (cond (ltb a (length atoms)) (first_of left right) (Some (NotAnAtom (next nodes)))) e) in
        let d = both_none left right c.1 in
        by_value a h (v a) each refl ((Decides-ltb a (length atoms)).0 c.0)
        (λ g. tree_clash t (with_fact (has_truth (slice_index atoms a) true) h) (depth + 1) (next nodes) n g d.0)
        (λ g. tree_clash f (with_fact (has_truth (slice_index atoms a) false) h) (depth + 1) _ _ g d.1)
    tree_clash (Steps ss t) h depth nodes n each e =
        let rest = fault j t (with_steps ss h) depth (next nodes) (count_steps n ss) in
        let c = both_none (bad_step j h n ss) rest (passed (ltb 20 depth) (TooDeep (next nodes)) (first_of (bad_step j h n ss) rest) e) in
        tree_clash t (with_steps ss h) depth (next nodes) (count_steps n ss) (steps_follow h n ss each c.0) c.1

value_in : (atoms : List ℕ) (v : ℕ → Bool) (given : Facts) (n k : ℕ) → k < n → with_values atoms v n given (has_truth (slice_index atoms k) (v k)) ≡ true
value_in atoms v given zero k l = absurd (omega arith)
value_in atoms v given (suc n) k l =
    ⊎_elim (λ (s : k < n). second_holds _ _ (value_in atoms v given n k s))
    (λ (s : k ≡ n). ap (λ b. b || with_values atoms v n given (has_truth (slice_index atoms k) (v k)))
    (ap (λ x. is_fact (has_truth (slice_index atoms x) (v x)) (has_truth (slice_index atoms k) (v k))) (sym s) ∙ is_fact-itself (has_truth (slice_index atoms k) (v k))))
    (split k n l)
  where
    split : (k n : ℕ) → k < suc n → (k < n) ⊎ (k ≡ n)
    split k n l = grind arith

given_in : (atoms : List ℕ) (v : ℕ → Bool) (given : Facts) (n : ℕ) (f : Fact) → given f ≡ true → with_values atoms v n given f ≡ true
given_in atoms v given zero f e = e
given_in atoms v given (suc n) f e = second_holds _ _ (given_in atoms v given n f e)

pub closes : (ts : Terms) (atoms : List ℕ) (given : Facts) (t : Tree) → first_fault (judge ts atoms) given t ≡ no_fault → (v : ℕ → Bool) → IsOpen ts atoms given v → ⊥
closes ts atoms given t e v open_branch =
    open_branch (tree_clash ts atoms (with_values atoms v (length atoms) given) v (λ k l. value_in atoms v given (length atoms) k l) t given 0 0 0
    (λ f x. start (given_in atoms v given (length atoms) f x)) e)
