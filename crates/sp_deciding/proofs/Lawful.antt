-- Deciding comes to one outcome at most, and its refusals say nothing of files.
use Rattle.std.proofs.Common.{◌≡◌, ◌∙◌, ℕ, ◌+◌, List, [], ◌∷◌, Option, Some, Result, Ok, Err, ap, arith, inl, inr, refl, sym}
use Rattle.sp_text.specs.declared.fault.Quantity.TheVariants as quantity
use Rattle.sp_outside.specs.Files.{Files}
use Rattle.sp_core.specs.Parts.{Parts}
use Rattle.sp_rules.specs.Questions.{Question}
use Rattle.sp_sequent.specs.Claims.{question_of}
use Rattle.sp_formulas.specs.Formulas.{Formula}
use Rattle.sp_hold.specs.Holding.{claim}
use Rattle.sp_prover.specs.Deciding.{IsRefused, LeavesFew}
use Rattle.sp_prover.specs.declared.branch.DecideFault.TheVariants.{TooManyAtoms}
use Rattle.sp_frame.specs.declared.refusal.Refusal.{Refusal}
use Rattle.sp_frame.specs.declared.refusal.WorkPlace.TheVariants as work_place
use Rattle.sp_frame.specs.Laws.{IsLawful}
use Rattle.sp_frame.proofs.Lawful.{gives_lawful, then_lawful}
use Rattle.sp_formula_list.specs.Listed.{exceeded}
use Rattle.sp_formula_list.proofs.Lawful.{exceeded_due}
use Rattle.sp_deciding.specs.Decided.{AllDecided, IsDecided}
use Rattle.sp_deciding.specs.declared.deciding.Decision.{Decision}
use Rattle.sp_deciding.specs.declared.deciding.Decision.TheVariants as decision
use Rattle.sp_deciding.proofs.Branches.{one_branch}
use Rattle.sp_deciding.proofs.Counts.{one_count}

module _ (owner : Option (List ℕ)) (q : Question) where
  -- few atoms are left undetermined, so it isn't refused
  not_both : (k : ℕ) → LeavesFew q → IsRefused q (TooManyAtoms k) → ⊥
  not_both k (inl clash) r = r.0 clash
  not_both k (inr (n, u, l)) r =
      let same = one_count q n k u r.1 in
      let many = r.2 in
      omega (arith, same, many, l)

  decided_once : (n : ℕ) (a b : Result Decision Refusal) → IsDecided owner n q a → IsDecided owner n q b → a ≡ b
  decided_once n (Ok decision.Proved) (Ok decision.Proved) h k = refl
  decided_once n (Ok decision.Proved) (Ok (decision.Open ws)) h (f, few) = absurd (h.0 _ f.1.is_open)
  decided_once n (Ok (decision.Open vs)) (Ok decision.Proved) (f, few) k = absurd (k.0 _ f.1.is_open)
  decided_once n (Ok (decision.Open vs)) (Ok (decision.Open ws)) (f, few) (g, few') = ap (λ us. Ok (decision.Open us)) (one_branch q vs ws f g)
  decided_once n (Ok decision.Proved) (Err r) h k = absurd (not_both k.0 h.1 k.1)
  decided_once n (Ok (decision.Open vs)) (Err r) (f, few) k = absurd (not_both k.0 few k.1)
  decided_once n (Err r) (Ok decision.Proved) h k = absurd (not_both h.0 k.1 h.1)
  decided_once n (Err r) (Ok (decision.Open vs)) h (f, few) = absurd (not_both h.0 few h.1)
  decided_once n (Err r) (Err s) h k =
      let same = one_count q h.0 k.0 h.1.1 k.1.1 in
      ap Err (h.2 ∙ ap (λ m. exceeded owner quantity.Atoms (work_place.Formula n) (Some m)) same ∙ sym k.2)

module _ (files : Files) (owner : Option (List ℕ)) where
  pub decided_lawful : (n : ℕ) (q : Question) → IsLawful files (IsDecided owner n q)
  decided_lawful n q = record {
    once = decided_once owner q n;
    due = λ r h. exceeded_due files owner quantity.Atoms (work_place.Formula n) (Some h.0) r h.2;
  }

  pub all_lawful : (p : Parts) (n : ℕ) (os : List Formula) → IsLawful files (AllDecided owner p n os)
  all_lawful p n [] = gives_lawful files _
  all_lawful p n (o ∷ os) =
      then_lawful files _ _ (decided_lawful n (question_of p (claim o))) (λ d.
      then_lawful files _ _ (all_lawful p (n + 1) os) (λ ds. gives_lawful files _))
