-- How words end over files. This is the only definition that lists the commands, each of which has its own.
use Rattle.std.specs.Prelude.{◌≡◌, ◌≢◌, ℕ, List, Option, Some, None}
use Rattle.sp_outside.specs.Files.{Files}
use Rattle.sp_words.specs.Words.{Command, check, command_of, compare, formulas, hierarchy, migrate, prove, run, sample, verify}
use Rattle.sp_frame.specs.declared.status.Status.{Status}
use Rattle.sp_frame.specs.declared.status.Status.TheVariants as status
use Rattle.sp_frame.specs.Endings.{Answer, Ending, EndsBy, no_command}
use Rattle.sp_frame.specs.Steps.{Step}
use Rattle.sp_frame.specs.Uncertified.{Widened}
use Rattle.sp_check_command.specs.Check.{CheckDone}
use Rattle.sp_formulas_command.specs.Formulas.{FormulasDone}
use Rattle.sp_run_command.specs.Run.{RunDone}
use Rattle.sp_compare_command.specs.Compare.{CompareDone}
use Rattle.sp_prove_command.specs.Prove.{ProveDone}
use Rattle.sp_verify_command.specs.Migrate.{MigrateDone}
use Rattle.sp_verify_command.specs.Verify.{VerifyDone}
use Rattle.sp_hierarchy_command.specs.Hierarchy.{HierarchyDone}
use Rattle.sp_sample_command.specs.Sample.{SampleDone}
use Rattle.sp_driver.specs.Certified.{Certified}

-- the work of a command
abbrev pub CommandDone : Command → Files → Step (Answer Certified)
CommandDone (check interface) files = Widened (CheckDone interface files)
CommandDone (formulas interface) files = Widened (FormulasDone interface files)
CommandDone (prove interface) files = ProveDone interface files
CommandDone (verify interface certificates) files = Widened (VerifyDone interface certificates files)
CommandDone (migrate interface certificates) files = Widened (MigrateDone interface certificates files)
CommandDone (run interface instance script) files = Widened (RunDone interface instance script files)
CommandDone (compare interface instance script level) files = Widened (CompareDone interface instance script level files)
CommandDone (hierarchy whole) files = Widened (HierarchyDone whole files)
CommandDone (sample size) files = Widened (SampleDone size)

-- the end of a command, and of words that may be none
abbrev pub EndsAs : Option Command → Files → Ending Certified → Type 0
EndsAs None files e = e ≡ no_command
EndsAs (Some command) files e = EndsBy (CommandDone command files) e

-- the words end so over the files
abbrev pub Ends : List (List ℕ) → Files → Ending Certified → Type 0
Ends words = EndsAs (command_of words)

-- the words are a command that loads files: each but `sample`
abbrev pub IsLoading : Option Command → Type 0
IsLoading None = ⊥
IsLoading (Some (sample size)) = ⊥
IsLoading (Some command) = Unit {0}

-- the status isn't one of those to which `sample` doesn't come, whatever the library: it loads no file, and has no assertion
pub record IsUnloaded (code : Status) : Type 0 where
  pub none_missing : code ≢ status.Missing
  pub none_failed : code ≢ status.ReadFault
  pub none_false : code ≢ status.NotAdmissible
