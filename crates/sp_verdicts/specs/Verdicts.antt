-- What is answered of a formula and a certificate.
use Rattle.std.specs.Prelude.{◌≡◌, Some, None, Result, Ok, Err}
use Rattle.sp_core.specs.Parts.{Parts}
use Rattle.sp_rules.specs.Questions.{Question}
use Rattle.sp_sequent.specs.Claims.{Claim, question_of}
use Rattle.sp_cert.specs.Tree.{Tree}
use Rattle.sp_checker.specs.Accepting.{fault_for}
use Rattle.sp_claims.specs.Laws.{HasNoOpenBranch}
use Rattle.sp_claims.specs.Models.{ClaimHolds}
use Rattle.sp_verdicts.specs.Laws.{Certifies}
use Rattle.sp_verdicts.specs.declared.verdict.CheckFault.{CheckFault}
use Rattle.sp_verdicts.specs.declared.verdict.CheckFault.TheVariants as fault

-- what a certificate that checks shows of its formula
pub record IsCertified (p : Parts) (c : Claim) (t : Tree) : Type 0 where
  pub certified : Certifies p c t
  pub closed : HasNoOpenBranch (question_of p c)
  pub holds : ClaimHolds p c

-- Ok where the certificate of this question checks, else its first fault
abbrev pub IsJudged : Question → Tree → Result (Unit {0}) CheckFault → Type 0
IsJudged q t (Ok u) = fault_for q t ≡ None
IsJudged q t (Err (fault.Unchecked f)) = fault_for q t ≡ Some f
IsJudged q t (Err fault.Memory) = Unit {0}

-- the same of a formula's certificate, with what its yes means
abbrev pub IsVerdict : Parts → Claim → Tree → Result (Unit {0}) CheckFault → Type 0
IsVerdict p c t (Ok u) = IsCertified p c t
IsVerdict p c t (Err (fault.Unchecked f)) = fault_for (question_of p c) t ≡ Some f
IsVerdict p c t (Err fault.Memory) = Unit {0}
