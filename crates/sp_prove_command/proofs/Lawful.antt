-- The work of `prove` comes to one outcome at most, and its refusals hold of the files.
use Rattle.std.specs.Prelude.{ℕ, List, None}
use Rattle.sp_outside.specs.Files.{Files}
use Rattle.sp_core.specs.Parts.{Parts}
use Rattle.sp_frame.specs.Laws.{IsLawful}
use Rattle.sp_frame.proofs.Lawful.{gives_lawful, then_lawful}
use Rattle.sp_system.proofs.Lawful.{judged_system_lawful, read_lawful}
use Rattle.sp_formula_list.proofs.Lawful.{listed_lawful}
use Rattle.sp_deciding.proofs.Lawful.{all_lawful}
use Rattle.sp_prove_command.specs.Prove.{ProveAnswered, ProveDone}

module _ (files : Files) where
  answered_lawful : (p : Parts) → IsLawful files (ProveAnswered p)
  answered_lawful p =
      then_lawful files _ _ (listed_lawful files None p) (λ os.
      then_lawful files _ _ (all_lawful files None p 1 os) (λ ds. gives_lawful files _))

  pub prove_lawful : (interface : List ℕ) → IsLawful files (ProveDone interface files)
  unfolding ProveDone
  prove_lawful interface =
      then_lawful files _ _ (read_lawful files interface) (λ x.
      then_lawful files _ _ (judged_system_lawful files interface x) (λ e. answered_lawful e.spec))
