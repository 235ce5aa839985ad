-- The work of `check` comes to one outcome at most, and its refusals hold of the files.
use Rattle.std.proofs.Common.{ℕ, List, Option, None}
use Rattle.sp_outside.specs.Files.{Files}
use Rattle.sp_core.specs.Parts.{Parts}
use Rattle.sp_frame.specs.Laws.{IsLawful}
use Rattle.sp_frame.proofs.Lawful.{gives_lawful, then_lawful}
use Rattle.sp_formula_list.proofs.Lawful.{listed_lawful}
use Rattle.sp_deciding.proofs.Lawful.{all_lawful}
use Rattle.sp_system.proofs.Lawful.{judged_system_lawful, read_lawful}
use Rattle.sp_check_command.specs.Check.{CheckAnswered, CheckDone}

module _ (files : Files) where
  pub answered_lawful : (owner : Option (List ℕ)) (p : Parts) → IsLawful files (CheckAnswered owner p)
  answered_lawful owner p =
      then_lawful files _ _ (listed_lawful files owner p) (λ os.
      then_lawful files _ _ (all_lawful files owner p 1 os) (λ ds. gives_lawful files _))

  pub check_lawful : (interface : List ℕ) → IsLawful files (CheckDone interface files)
  unfolding CheckDone
  check_lawful interface =
      then_lawful files _ _ (read_lawful files interface) (λ x.
      then_lawful files _ _ (judged_system_lawful files interface x) (λ e. answered_lawful None e.spec))
