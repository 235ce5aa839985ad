-- Words have one ending at most.
use Rattle.std.proofs.Common.{◌≡◌, ◌∙◌, ℕ, List, Option, Some, None, sym, ap}
use Rattle.sp_outside.specs.Files.{Files}
use Rattle.sp_words.specs.Words.{Command, check, command_of, compare, formulas, hierarchy, migrate, prove, run, sample, verify}
use Rattle.sp_frame.specs.Endings.{Ending, ending_of}
use Rattle.sp_frame.specs.Laws.{IsLawful}
use Rattle.sp_frame.proofs.Uncertified.{widened_lawful}
use Rattle.sp_check_command.specs.Check.{CheckDone}
use Rattle.sp_formulas_command.specs.Formulas.{FormulasDone}
use Rattle.sp_prove_command.specs.Prove.{ProveDone}
use Rattle.sp_verify_command.specs.Migrate.{MigrateDone}
use Rattle.sp_verify_command.specs.Verify.{VerifyDone}
use Rattle.sp_run_command.specs.Run.{RunDone}
use Rattle.sp_compare_command.specs.Compare.{CompareDone}
use Rattle.sp_hierarchy_command.specs.Hierarchy.{HierarchyDone}
use Rattle.sp_sample_command.specs.Sample.{SampleDone}
use Rattle.sp_driver.specs.Certified.{Certified}
use Rattle.sp_driver.specs.Laws.{CommandLaw}
use Rattle.sp_driver.specs.Report.{CommandDone, Ends, EndsAs}

-- the law of all commands, from that of each
module _ (files : Files) (of_check : (interface : List ℕ) → IsLawful files (CheckDone interface files))
    (of_formulas : (interface : List ℕ) → IsLawful files (FormulasDone interface files))
    (of_prove : (interface : List ℕ) → IsLawful files (ProveDone interface files))
    (of_verify : (interface certs : List ℕ) → IsLawful files (VerifyDone interface certs files))
    (of_migrate : (interface certs : List ℕ) → IsLawful files (MigrateDone interface certs files))
    (of_run : (interface instance script : List ℕ) → IsLawful files (RunDone interface instance script files))
    (of_compare : (interface instance script level : List ℕ) → IsLawful files (CompareDone interface instance script level files))
    (of_hierarchy : (whole : List ℕ) → IsLawful files (HierarchyDone whole files))
    (of_sample : (size : ℕ) → IsLawful files (SampleDone size)) where
  pub lawful : (command : Command) → IsLawful files (CommandDone command files)
  lawful (check interface) = widened_lawful files _ (of_check interface)
  lawful (formulas interface) = widened_lawful files _ (of_formulas interface)
  lawful (prove interface) = of_prove interface
  lawful (verify interface certs) = widened_lawful files _ (of_verify interface certs)
  lawful (migrate interface certs) = widened_lawful files _ (of_migrate interface certs)
  lawful (run interface instance script) = widened_lawful files _ (of_run interface instance script)
  lawful (compare interface instance script level) = widened_lawful files _ (of_compare interface instance script level)
  lawful (hierarchy whole) = widened_lawful files _ (of_hierarchy whole)
  lawful (sample size) = widened_lawful files _ (of_sample size)

module _ (law : CommandLaw) (files : Files) where
  ends_once : (command : Option Command) (e f : Ending Certified) → EndsAs command files e → EndsAs command files f → e ≡ f
  ends_once None e f p q = p ∙ sym q
  ends_once (Some command) e f p q = p.2 ∙ ap ending_of ((law files command).once p.0 q.0 p.1 q.1) ∙ sym q.2

  pub once : (words : List (List ℕ)) (e f : Ending Certified) → Ends words files e → Ends words files f → e ≡ f
  once words = ends_once (command_of words)
