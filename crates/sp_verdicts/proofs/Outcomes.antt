-- What the answer of a checker says of a formula.
use Rattle.std.proofs.Common.{◌≡◌, Option, Some, None, Result, Ok, Err, IfOk, refl, sym, ap, ◌∙◌, subst}
use Rattle.sp_core.specs.Parts.{Parts}
use Rattle.sp_core.specs.WellFormed.{IsWellFormed}
use Rattle.sp_rules.specs.Questions.{Question}
use Rattle.sp_sequent.specs.Claims.{Claim, IsTypedClaim, question_of}
use Rattle.sp_cert.specs.declared.cert.Cert.{Cert}
use Rattle.sp_cert.specs.declared.cert.CertFault.{CertFault}
use Rattle.sp_cert.specs.Tree.{Tree, tree}
use Rattle.sp_checker.specs.declared.lift.LiftFault.{LiftFault}
use Rattle.sp_checker.specs.Accepting.{answer, fault_for, outcome}
use Rattle.sp_checker.specs.Lifts.{IsLift}
use Rattle.sp_verdicts.specs.declared.verdict.CheckFault.{CheckFault}
use Rattle.sp_verdicts.specs.declared.verdict.CheckFault.TheVariants as fault
use Rattle.sp_verdicts.specs.Laws.{CertifiedAreClosed, CertifiedClaimsHold}
use Rattle.sp_verdicts.specs.Verdicts.{IsJudged, IsVerdict}

abbrev fine : Result (Unit {0}) CertFault
fine = Ok tt

abbrev failed : CertFault → Result (Unit {0}) CertFault
failed f = Err f

abbrev none : Option CertFault
none = None

abbrev its_fault : CertFault → Result (Unit {0}) CertFault → CertFault
its_fault d (Ok u) = d
its_fault d (Err f) = f

no_fault : (o : Option CertFault) → outcome o ≡ fine → o ≡ none
no_fault None e = refl
no_fault (Some f) e = absurd (cc)

one_fault : (o : Option CertFault) (f : CertFault) → outcome o ≡ failed f → o ≡ Some f
one_fault None f e = absurd (cc)
one_fault (Some g) f e = ap (λ r. let o : Option CertFault = Some (its_fault g r) in o) e

-- where a checker of this question accepts
pub accepted : (q r : Question) (t : Tree) → q ≡ r → answer q t ≡ fine → fault_for r t ≡ none
accepted q r t same e = ap (λ (x : Question). fault_for x t) (sym same) ∙ no_fault (fault_for q t) e

-- where it refuses
pub refused : (q r : Question) (t : Tree) (f : CertFault) → q ≡ r → answer q t ≡ failed f → fault_for r t ≡ Some f
refused q r t f same e = ap (λ (x : Question). fault_for x t) (sym same) ∙ one_fault (fault_for q t) f e

-- what is answered of a formula's question is the verdict on the formula
pub verdict : CertifiedAreClosed → CertifiedClaimsHold → (p : Parts) (c : Claim) (t : Tree) → IsWellFormed p → IsTypedClaim p c → (q : Question) → q ≡ question_of p c → (r : Result (Unit {0}) CheckFault) → IsJudged q t r → IsVerdict p c t r
verdict closed holds p c t well_formed typed q same (Ok u) e =
    let certified = ap (λ (x : Question). fault_for x t) (sym same) ∙ e in
    record { certified = certified; closed = closed p c t certified; holds = holds p c t well_formed typed certified }
verdict closed holds p c t well_formed typed q same (Err (fault.Unchecked f)) e = ap (λ (x : Question). fault_for x t) (sym same) ∙ e
verdict closed holds p c t well_formed typed q same (Err fault.Memory) e = tt

pub checks_of : (q r : Question) → q ≡ r → (o : Result Cert LiftFault) → IfOk o (λ x. fault_for q (tree x) ≡ none) → IfOk o (λ x. fault_for r (tree x) ≡ none)
checks_of q r same o e = subst (λ (k : Question). IfOk o (λ x. fault_for k (tree x) ≡ none)) same e

pub lift_of : (q r : Question) → q ≡ r → (t : Tree) (o : Result Cert LiftFault) → IsLift q t o → IsLift r t o
lift_of q r same t o e = subst (λ (k : Question). IsLift k t o) same e
