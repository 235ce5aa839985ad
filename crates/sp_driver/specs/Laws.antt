-- What holds of the work of every command, and of one command after another.
use Rattle.std.specs.Prelude.{◌≡◌, ◌≤◌, ℕ, List, Option, None, Some, length, option_and_then}
use Rattle.sp_text.specs.declared.limits.TheConstants.{MOST_CERTIFICATE_BYTES}
use Rattle.sp_outside.specs.Files.{Files, first_file}
use Rattle.sp_words.specs.Words.{Command, command_of, migrate, prove, verify}
use Rattle.sp_frame.specs.declared.refusal.Verdict.TheVariants as verdict
use Rattle.sp_frame.specs.declared.status.Status.TheVariants as status
use Rattle.sp_frame.specs.Endings.{Ending, Reports}
use Rattle.sp_frame.specs.Laws.{IsLawful}
use Rattle.sp_verify_command.specs.Laws.{ReadAlike}
use Rattle.sp_driver.specs.Certified.{Certified, spells}
use Rattle.sp_driver.specs.Report.{CommandDone, Ends}
use Rattle.sp_driver.specs.Run.{EndsAnswered}

-- it comes to one outcome at most, and its refusals hold of the files
abbrev pub CommandLaw : Type 0
CommandLaw = (files : Files) (command : Command) → IsLawful files (CommandDone command files)

-- the interface of which a command prints certificates
abbrev pub certifies : Command → Option (List ℕ)
certifies (prove interface) = Some interface
certifies (migrate interface certificates) = Some interface
certifies c = None

-- What is printed with status Ok by `prove` or `migrate` is accepted by `verify`: over other files in which the interface reads as in the first, and
-- where a file of at most 67,108,864 bytes holds what was printed.
abbrev pub PrintedAreAccepted : Type 0
PrintedAreAccepted =
    (words again : List (List ℕ)) (files others : Files) (interface certs bytes : List ℕ) (e : Ending Certified)
    → option_and_then certifies (command_of words) ≡ Some interface → Ends words files e → Reports spells e bytes status.Ok
    → command_of again ≡ Some (verify interface certs) → ReadAlike interface files others → first_file certs others ≡ Some bytes → length bytes ≤ MOST_CERTIFICATE_BYTES
    → EndsAnswered again verdict.Ok others
