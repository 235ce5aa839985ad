-- What a checker answers, and what its yes means.
use Rattle.std.specs.Prelude.{◌≡◌, ℕ, Bool, Option, Some, None, Result, Ok, Err}
use Rattle.sp_rules.specs.Branches.{IsOpen}
use Rattle.sp_rules.specs.Facts.{is_one_of}
use Rattle.sp_rules.specs.Questions.{Question}
use Rattle.sp_cert.specs.declared.cert.CertFault.{CertFault}
use Rattle.sp_cert.specs.Checks.{first_fault}
use Rattle.sp_cert.specs.Tree.{Tree}
use Rattle.sp_checker.specs.Known.{judge}

-- the first fault of a certificate for a formula, or nothing where it checks
abbrev pub fault_for : Question → Tree → Option CertFault
fault_for q t = first_fault (judge q.terms q.atoms) (is_one_of q.given) t

-- Ok where there is no fault
abbrev pub outcome : Option CertFault → Result (Unit {0}) CertFault
outcome None = Ok tt
outcome (Some f) = Err f

-- Ok where the certificate checks, else its first fault
abbrev pub answer : Question → Tree → Result (Unit {0}) CertFault
answer q t = outcome (fault_for q t)

-- the law: where a certificate checks, no choice of the atoms' values is an open branch
abbrev pub CheckedMeansClosed : Type 0
CheckedMeansClosed = (q : Question) (t : Tree) → fault_for q t ≡ None → (v : ℕ → Bool) → IsOpen q.terms q.atoms (is_one_of q.given) v → ⊥
