-- When leaves and splits check.
use Rattle.std.proofs.Common.{◌≡◌, ℕ, zero, suc, ◌+◌, ◌<◌, ◌≤◌, ◌||◌, Bool, true, false, cond, ltb, List, [], ◌∷◌, length, take, Option, Some, refl, sym, ap, ◌∙◌, ⊎_elim, arith}
use Rattle.std.specs.Prelude.{slice_index}
use Rattle.std.proofs.lemmas.Bool.Decides.{Decides-ltb, nat_tests}
use Rattle.sp_rules.specs.Terms.{Terms}
use Rattle.sp_rules.specs.Clash.{is_clash}
use Rattle.sp_rules.specs.Facts.{has_truth, is_fact, with_fact}
use Rattle.sp_rules.specs.Table.{lack_of}
use Rattle.sp_rules.specs.declared.fact.Fact.{Fact}
use Rattle.sp_rules.specs.declared.fact.Step.{Step}
use Rattle.sp_rules.proofs.FactLemmas.{one_holds, first_holds, second_holds}
use Rattle.sp_rules.proofs.Steps.{lacks_no_more, no_lack}
use Rattle.sp_saturate.specs.Accepted.{AreAccepted, EndInClash}
use Rattle.sp_saturate.specs.Steps.{on, step_at}
use Rattle.sp_saturate.proofs.StepLemmas.{on-none}
use Rattle.sp_cert.specs.declared.cert.CertFault.{CertFault}
use Rattle.sp_cert.specs.declared.cert.CertFault.TheVariants.{NotAnAtom, TooDeep, NoClash}
use Rattle.sp_cert.specs.Tree.{Tree, Split, Leaf}
use Rattle.sp_cert.specs.Checks.{Judge, next, bad_or, bad_step, ends_in_clash, leaf_fault, first_of, unless_deep, fault, count_nodes, count_all}
use Rattle.sp_checker.specs.Known.{judge}
use Rattle.sp_prover.specs.Deciding.{no_fault}

on-cons : (s : Step) (xs : List Step) (f : Fact) → on (s ∷ xs) f ≡ (is_fact s.fact f || on xs f)
unfolding on
on-cons s xs f = refl

abbrev some_fault : CertFault → Option CertFault
some_fault e = Some e

not_deep : (depth node : ℕ) (o : Option CertFault) → depth ≤ 20 → unless_deep depth node o ≡ o
not_deep depth node o l = let e : ltb 20 depth ≡ false = grind (arith, nat_tests) in ap (λ b. cond b (some_fault (TooDeep node)) o) e

module _ (ts : Terms) (atoms : List ℕ) where
  abbrev j : Judge
  j = judge ts atoms

  no_bad : (h : Fact → Bool) (n : ℕ) (ss : List Step) → ((k : ℕ) → k < length ss → lack_of ts (λ f. h f || on (take k ss) f) (step_at ss k) ≡ no_lack) → bad_step j h n ss ≡ no_fault
  no_bad h n [] all = refl
  no_bad h n (s ∷ ss) all = ap (λ o. bad_or o (next n) (bad_step j (with_fact s.fact h) (next n) ss)) here ∙ no_bad (with_fact s.fact h) (next n) ss more
    where
      here : lack_of ts h s ≡ no_lack
      here = lacks_no_more ts (λ f. h f || on [] f) h (λ f e. ⊎_elim (λ a. a) (λ (b : on [] f ≡ true). absurd (cc (sym (on-none f) ∙ b))) (one_holds _ _ e)) s (all 0 (omega arith))

      wider : (k : ℕ) (f : Fact) → (h f || on (s ∷ take k ss) f) ≡ true → (with_fact s.fact h f || on (take k ss) f) ≡ true
      wider k f e =
          ⊎_elim (λ (a : h f ≡ true). first_holds _ _ (second_holds (is_fact s.fact f) _ a))
          (λ (b : on (s ∷ take k ss) f ≡ true). ⊎_elim (λ (c : is_fact s.fact f ≡ true). first_holds _ _ (first_holds _ (h f) c)) (λ (d : on (take k ss) f ≡ true). second_holds _ _ d) (one_holds _ _ (sym (on-cons s (take k ss) f) ∙ b)))
          (one_holds _ _ e)

      more : (k : ℕ) → k < length ss → lack_of ts (λ f. with_fact s.fact h f || on (take k ss) f) (step_at ss k) ≡ no_lack
      more k l = lacks_no_more ts (λ f. h f || on (s ∷ take k ss) f) (λ f. with_fact s.fact h f || on (take k ss) f) (wider k) (step_at ss k) (all (suc k) (omega arith))

  ends : (c : Bool) (ss : List Step) (k : ℕ) → k + 1 ≡ length ss → is_clash ts (step_at ss k).fact ≡ true → ends_in_clash j c ss ≡ true
  ends c [] k e f = absurd (omega arith)
  ends c (s ∷ []) zero e f = f
  ends c (s ∷ (t ∷ ss)) zero e f = absurd (omega arith)
  ends c (s ∷ ss) (suc k) e f = ends (is_clash ts s.fact) ss k (omega arith) f

  pub leaf_checks : (h : Fact → Bool) (depth : ℕ) (ss : List Step) → depth ≤ 20 → AreAccepted ts h ss → EndInClash ts ss → (nodes n : ℕ) → fault j (Leaf ss) h depth nodes n ≡ no_fault
  leaf_checks h depth ss few accepted end nodes n =
      not_deep depth (next nodes) (leaf_fault j h (next nodes) n ss) few
      ∙ ap (λ o. first_of o (cond (ends_in_clash j false ss) no_fault (some_fault (NoClash (next nodes))))) (no_bad h n ss accepted.accepted)
      ∙ ap (λ b. cond b no_fault (some_fault (NoClash (next nodes)))) (ends false ss end.0 end.1 end.2)

  pub split_checks : (h : Fact → Bool) (depth a : ℕ) (t f : Tree) (nodes n : ℕ) → depth ≤ 20 → a < length atoms
      → fault j t (with_fact (has_truth (slice_index atoms a) true) h) (depth + 1) (next nodes) n ≡ no_fault
      → fault j f (with_fact (has_truth (slice_index atoms a) false) h) (depth + 1) (count_nodes (next nodes) t) (count_all n t) ≡ no_fault
      → fault j (Split a t f) h depth nodes n ≡ no_fault
  split_checks h depth a t f nodes n few l left right =
      let left_fault = fault j t (with_fact (has_truth (slice_index atoms a) true) h) (depth + 1) (next nodes) n in
      let right_fault = fault j f (with_fact (has_truth (slice_index atoms a) false) h) (depth + 1) (count_nodes (next nodes) t) (count_all n t) in
      not_deep depth (next nodes) (cond (ltb a (length atoms)) (first_of left_fault right_fault) (some_fault (NotAnAtom (next nodes)))) few
      ∙ ap (λ b. cond b (first_of left_fault right_fault) (some_fault (NotAnAtom (next nodes)))) ((Decides-ltb a (length atoms)).1 l)
      ∙ ap (λ o. first_of o right_fault) left ∙ right
