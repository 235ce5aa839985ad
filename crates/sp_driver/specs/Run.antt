-- What the top call answers and writes, and why, for its contract.
use Rattle.std.specs.Prelude.{◌≡◌, ◌⊎◌, ℕ, List, Option, None, IsTrue}
use Rattle.sp_text.specs.declared.fault.Limit.{Limit}
use Rattle.sp_text.specs.declared.fault.Malformed.{Malformed}
use Rattle.sp_outside.specs.Files.{Files, IsTooLong, first_file}
use Rattle.sp_outside.specs.Written.{Appends, AppendsPrefix}
use Rattle.sp_frame.specs.declared.refusal.Refusal.TheVariants as refusal
use Rattle.sp_frame.specs.declared.refusal.WorkLimit.{WorkLimit}
use Rattle.sp_frame.specs.declared.refusal.Verdict.{Verdict}
use Rattle.sp_frame.specs.declared.refusal.Verdict.TheVariants as verdict
use Rattle.sp_frame.specs.declared.report.Report.{Report}
use Rattle.sp_frame.specs.declared.status.Status.{Status}
use Rattle.sp_frame.specs.declared.status.Status.TheVariants as status
use Rattle.sp_frame.specs.Endings.{Answer, Ending, Prints, Reports, answered, refused, verdict_of}
use Rattle.sp_frame.specs.Status.{IsFailure, is_reported}
use Rattle.sp_words.specs.Words.{command_of}
use Rattle.sp_driver.specs.Certified.{Certified, spells}
use Rattle.sp_driver.specs.Report.{Ends}
use Rattle.sp_driver.specs.Secure.{AskedIsSecure, ShownIsSecure}
use Rattle.sp_driver.specs.Shown.{IsAppended}

-- the bytes of the report were written, and this is its status
abbrev pub IsWritten : Option (List ℕ) → Option (List ℕ) → Report → Status → Type 0
IsWritten before now report result = Appends before now report.bytes.items × (result ≡ report.status)

module _ (words : List (List ℕ)) where
  -- the words have an ending of this status, and its bytes were written
  abbrev pub Reported : Status → Option (List ℕ) → Option (List ℕ) → Files → Type 0
  Reported code before now files = (e : Ending Certified) × (bytes : List ℕ) × Ends words files e × Reports spells e bytes code × Appends before now bytes

  -- the bytes and the status are those of an ending of the words
  abbrev pub HasReport : List ℕ → Status → Files → Type 0
  HasReport bytes code files = (e : Ending Certified) × Ends words files e × Reports spells e bytes code

  -- the words have an ending, and a prefix of its bytes was written
  abbrev pub CutShort : Option (List ℕ) → Option (List ℕ) → Files → Type 0
  CutShort before now files = (e : Ending Certified) × (bytes : List ℕ) × Ends words files e × Prints spells e bytes × AppendsPrefix before now bytes

  -- each ending of the words has this status and these bytes, unless a read, a write or memory failed
  abbrev pub IsDetermined : Status → Option (List ℕ) → Option (List ℕ) → Files → Type 0
  IsDetermined code before now files = (e : Ending Certified) → Ends words files e → ((bytes : List ℕ) × Reports spells e bytes code × Appends before now bytes) ⊎ IsFailure code

  -- what the words ask about is secure
  abbrev pub AcceptsSecure : Files → Type 0
  AcceptsSecure files = AskedIsSecure (command_of words) files

  -- the same by the lines that begin with ACCEPTED in the bytes that were written, all of a report or a part
  abbrev pub ShowsSecure : Option (List ℕ) → Option (List ℕ) → Files → Type 0
  ShowsSecure before now files = (bytes : List ℕ) → IsAppended before now bytes → ShownIsSecure (command_of words) bytes files

  -- ---- causes

  -- the work ends at a file that isn't there
  abbrev pub EndsMissing : Files → Type 0
  EndsMissing files = (name : List ℕ) × Ends words files (refused (refusal.Missing name)) × (first_file name files ≡ None)

  -- at a file that is too long
  abbrev pub EndsTooLong : Files → Type 0
  EndsTooLong files = (name : List ℕ) × (most : ℕ) × Ends words files (refused (refusal.TooLong name most)) × IsTooLong name most files

  -- at the word for a level, which is too long
  abbrev pub EndsLong : Files → Type 0
  EndsLong files = Ends words files (refused refusal.LongWord)

  -- at a place of a text that exceeds a limit
  abbrev pub EndsExceeded : Files → Type 0
  EndsExceeded files = (name : List ℕ) × (l : Limit) × Ends words files (refused (refusal.Exceeded name l))

  -- at a limit of the work
  abbrev pub EndsWorked : Files → Type 0
  EndsWorked files = (limit : WorkLimit) × Ends words files (refused (refusal.Work limit))

  -- at a place of a text that breaks a rule
  abbrev pub EndsBroken : Files → Type 0
  EndsBroken files = (name : List ℕ) × (m : Malformed) × Ends words files (refused (refusal.Broken name m))

  -- at a declared order that breaks a rule at two levels
  abbrev pub EndsUnordered : Files → Type 0
  EndsUnordered files = (name : List ℕ) × (m : Malformed) × (first : List ℕ) × (second : List ℕ) × Ends words files (refused (refusal.BrokenOrder name m first second))

  -- at an assertion that is false in an instance
  abbrev pub EndsFalse : Files → Type 0
  EndsFalse files = (name : List ℕ) × (number : ℕ) × Ends words files (refused (refusal.NotAdmissible name number))

  -- with an answer of this verdict
  abbrev pub EndsAnswered : Verdict → Files → Type 0
  EndsAnswered v files = (a : Answer Certified) × Ends words files (answered a) × (verdict_of a ≡ v)

  -- the cause of each status
  abbrev pub CauseOf : Status → Files → Type 0
  CauseOf status.Ok files = EndsAnswered verdict.Ok files
  CauseOf status.Refused files = EndsAnswered verdict.Refused files
  CauseOf status.Conflict files = EndsAnswered verdict.Conflict files
  CauseOf status.Malformed files = EndsBroken files ⊎ EndsUnordered files
  CauseOf status.Words files = command_of words ≡ None
  CauseOf status.Missing files = EndsMissing files
  CauseOf status.Limit files = EndsTooLong files ⊎ EndsExceeded files ⊎ EndsWorked files ⊎ EndsLong files
  CauseOf status.NotAdmissible files = EndsFalse files
  CauseOf status.ReadFault files = ⊥
  CauseOf status.WriteFault files = ⊥
  CauseOf status.Memory files = ⊥

  -- a status comes only where its cause is, and where the cause of a status is, that status comes, unless a read, a write or
  -- memory failed
  pub record IsCaused (result : Status) (files : Files) : Type 0 where
    pub only : IsTrue (is_reported result) → CauseOf result files
    pub always : (code : Status) → CauseOf code files → (result ≡ code) ⊎ IsFailure result
