-- What migration answers, and its laws over the texts of certificates.
use Rattle.std.specs.Prelude.{◌≡◌, ℕ, All, Option, Some, None, Result, Ok, Err}
use Rattle.sp_rules.specs.Facts.{is_one_of}
use Rattle.sp_rules.specs.Questions.{Question}
use Rattle.sp_cert.specs.declared.cert.Cert.{Cert}
use Rattle.sp_cert.specs.Tree.{Tree, File, tree}
use Rattle.sp_cert.specs.Within.{IsFile, IsTree}
use Rattle.sp_checker.specs.declared.lift.LiftFault.{LiftFault}
use Rattle.sp_checker.specs.declared.lift.LiftFault.TheVariants as fault
use Rattle.sp_checker.specs.Accepting.{fault_for}
use Rattle.sp_checker.specs.Known.{judge}
use Rattle.sp_checker.specs.Migration.{IsPlain, lifted}

-- a certificate of a formula, migrated
abbrev pub lifted_for : Question → Tree → Tree
lifted_for q t = lifted (judge q.terms q.atoms) (is_one_of q.given) t

-- what migration answers: the migrated certificate where it checks, else its first fault
abbrev pub IsLift : Question → Tree → Result Cert LiftFault → Type 0
IsLift q t (Ok c) = (fault_for q t ≡ None) × (tree c ≡ lifted_for q t)
IsLift q t (Err (fault.Unchecked f)) = fault_for q t ≡ Some f
IsLift q t (Err fault.Memory) = Unit {0}

-- the law: a file of the first format has no STEPS node
abbrev pub FirstFormatIsPlain : Type 0
FirstFormatIsPlain = (depth : ℕ) (f : File) → IsFile depth f → f.format ≡ 1 → All IsPlain f.trees

-- the law: what is migrated of a certificate that checks can be spelled in the second format, with at most 64 SPLIT and
-- STEPS lines in one another, where the certificate can be spelled in the first
abbrev pub LiftedIsSpelled : Type 0
LiftedIsSpelled = (q : Question) (depth : ℕ) (t : Tree) → IsTree 1 depth t → fault_for q t ≡ None → IsTree 2 64 (lifted_for q t)
