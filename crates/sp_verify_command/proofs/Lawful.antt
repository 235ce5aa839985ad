-- The work of `verify` and of `migrate` comes to one outcome at most, and its refusals hold of the files.
use Rattle.std.proofs.Common.{ℕ, List, None}
use Rattle.sp_outside.specs.Files.{Files}
use Rattle.sp_frame.specs.Laws.{IsLawful}
use Rattle.sp_frame.proofs.Lawful.{file_lawful, gives_lawful, then_lawful}
use Rattle.sp_formula_list.proofs.Lawful.{listed_lawful}
use Rattle.sp_sorts.specs.Certificates.{certificates}
use Rattle.sp_sorts.proofs.Divided.{certificates_once}
use Rattle.sp_system.proofs.Lawful.{judged_system_lawful, read_lawful}
use Rattle.sp_verify_command.specs.Migrate.{MigrateDone}
use Rattle.sp_verify_command.specs.Verify.{TextsRead, VerifyDone}

module _ (files : Files) (interface certs : List ℕ) where
  texts_lawful : IsLawful files (TextsRead interface certs files)
  texts_lawful =
      then_lawful files _ _ (read_lawful files interface) (λ x.
      then_lawful files _ _ (file_lawful files certificates certs certificates_once) (λ f. gives_lawful files _))

  pub verify_lawful : IsLawful files (VerifyDone interface certs files)
  unfolding VerifyDone
  verify_lawful =
      then_lawful files _ _ texts_lawful (λ x.
      then_lawful files _ _ (judged_system_lawful files interface x.system) (λ e.
      then_lawful files _ _ (listed_lawful files None e.spec) (λ os. gives_lawful files _)))

  pub migrate_lawful : IsLawful files (MigrateDone interface certs files)
  unfolding MigrateDone
  migrate_lawful =
      then_lawful files _ _ texts_lawful (λ x.
      then_lawful files _ _ (judged_system_lawful files interface x.system) (λ e.
      then_lawful files _ _ (listed_lawful files None e.spec) (λ os. gives_lawful files _)))
