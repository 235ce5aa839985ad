-- A specification whose flow formulas have no open branch is accepted: each of them is typed, so it holds, and where all hold
-- the specification is secure.
use Rattle.std.proofs.Common.{◌≡◌, sym, subst, List, [], ◌∷◌, map}
use Rattle.std.specs.List.{All}
use Rattle.std.proofs.lemmas.List.Elements.{All-cons, All-head, All-nil, All-tail, All-weaker}
use Rattle.sp_core.specs.Parts.{Parts}
use Rattle.sp_core.specs.WellFormed.{IsWellFormed}
use Rattle.sp_core.specs.Instances.{machine_of}
use Rattle.sp_claims.specs.Laws.{HasNoOpenBranch}
use Rattle.sp_claims.specs.Models.{ClaimHolds, HoldsIn}
use Rattle.sp_claims.proofs.Against.{closed_claims_hold}
use Rattle.sp_flow.proofs.Secure.{secure}
use Rattle.sp_formulas.specs.Formulas.{formula_as, formulas}
use Rattle.sp_formulas.specs.Typed.{AreTypedFormulas, IsTypedFormula}
use Rattle.sp_formula_laws.proofs.TypedFormulas.{formulas_typed}
use Rattle.sp_hold.specs.Holding.{claim}
use Rattle.sp_hold.proofs.Flow.{flows_upward}
use Rattle.sp_sequent.specs.Claims.{claim_of, question_of}
use Rattle.sp_sequent.specs.declared.formula.Formula.{Formula as Made}
use Rattle.sp_unwinding.specs.Accepting.{IsAccepted}

module _ (p : Parts) (wf : IsWellFormed p) where
  -- typed formulas without an open branch hold
  all_hold : (fs : List Made) → AreTypedFormulas p (map formula_as fs) → All (λ f. HasNoOpenBranch (question_of p (claim_of f))) fs → All (λ o. ClaimHolds p (claim o)) (map formula_as fs)
  all_hold [] typed closed = All-nil (λ o. ClaimHolds p (claim o))
  all_hold (f ∷ fs) typed closed =
      let own = All-head (IsTypedFormula p) (formula_as f) (map formula_as fs) typed in
      All-cons (λ o. ClaimHolds p (claim o)) (formula_as f) (map formula_as fs)
      (closed_claims_hold p (claim_of f) wf (record { hypotheses = own.hypotheses; goal = own.goal }) (All-head (λ f. HasNoOpenBranch (question_of p (claim_of f))) f fs closed))
      (all_hold fs (All-tail (IsTypedFormula p) (formula_as f) (map formula_as fs) typed) (All-tail (λ f. HasNoOpenBranch (question_of p (claim_of f))) f fs closed))

  pub accepted : (fs : List Made) → map formula_as fs ≡ formulas p → All (λ f. HasNoOpenBranch (question_of p (claim_of f))) fs → IsAccepted p
  accepted fs listed closed =
      let hold = subst (All (λ o. ClaimHolds p (claim o))) listed (all_hold fs (subst (AreTypedFormulas p) (sym listed) (formulas_typed p wf)) closed) in
      record {
        secure = λ i inst admits. secure p i wf inst (flows_upward p i wf inst admits (All-weaker (λ o. ClaimHolds p (claim o)) (λ o. HoldsIn (machine_of p i) (claim o)) (λ o h. h i inst) (formulas p) hold));
        formulas_hold = hold;
      }
