-- Why a formula with a certificate holds: a certificate that checks leaves it no open branch.
use Rattle.std.specs.Prelude.{◌≡◌, None}
use Rattle.sp_core.specs.Parts.{Parts}
use Rattle.sp_core.specs.WellFormed.{IsWellFormed}
use Rattle.sp_sequent.specs.Claims.{Claim, IsTypedClaim, question_of}
use Rattle.sp_cert.specs.Tree.{Tree}
use Rattle.sp_checker.specs.Accepting.{fault_for}
use Rattle.sp_claims.specs.Laws.{HasNoOpenBranch}
use Rattle.sp_claims.specs.Models.{ClaimHolds}

-- the certificate of a formula checks: it has no fault
abbrev pub Certifies : Parts → Claim → Tree → Type 0
Certifies p c t = fault_for (question_of p c) t ≡ None

-- the law: a formula never has both a certificate that checks and an open branch
abbrev pub CertifiedAreClosed : Type 0
CertifiedAreClosed = (p : Parts) (c : Claim) (t : Tree) → Certifies p c t → HasNoOpenBranch (question_of p c)

-- the law: a formula with a certificate that checks holds, in every instance, for every two states and all values of its
-- variables
abbrev pub CertifiedClaimsHold : Type 0
CertifiedClaimsHold = (p : Parts) (c : Claim) (t : Tree) → IsWellFormed p → IsTypedClaim p c → Certifies p c t → ClaimHolds p c
