-- The work of `formulas` comes to one outcome at most, and its refusals hold of the files.
use Rattle.std.proofs.Common.{ℕ, List, None}
use Rattle.sp_outside.specs.Files.{Files}
use Rattle.sp_frame.specs.Laws.{IsLawful}
use Rattle.sp_frame.proofs.Lawful.{gives_lawful, then_lawful}
use Rattle.sp_formula_list.proofs.Lawful.{listed_lawful}
use Rattle.sp_system.proofs.Lawful.{judged_system_lawful, read_lawful}
use Rattle.sp_formulas_command.specs.Formulas.{FormulasDone, list_printed}

module _ (files : Files) where
  pub formulas_lawful : (interface : List ℕ) → IsLawful files (FormulasDone interface files)
  unfolding FormulasDone
  formulas_lawful interface =
      then_lawful files _ _ (read_lawful files interface) (λ x.
      then_lawful files _ _ (judged_system_lawful files interface x) (λ e.
      then_lawful files _ _ (listed_lawful files None e.spec) (λ fs. gives_lawful files (list_printed e.spec fs))))
