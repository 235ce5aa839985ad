-- How the work of a command ends, as plain data, and what is printed of it with which status. For what `run` answers.
use Rattle.std.specs.Prelude.{◌≡◌, ℕ, List, Result, Ok, Err, codes}
use Rattle.sp_frame.specs.declared.refusal.Printed.{Printed}
use Rattle.sp_frame.specs.declared.refusal.Refusal.{Refusal}
use Rattle.sp_frame.specs.declared.refusal.Refusal.TheVariants as refusal
use Rattle.sp_frame.specs.declared.refusal.LoadStop.{LoadStop}
use Rattle.sp_frame.specs.declared.refusal.LoadStop.TheVariants as load_stop
use Rattle.sp_frame.specs.declared.refusal.Verdict.{Verdict}
use Rattle.sp_frame.specs.declared.refusal.Verdict.TheVariants as verdict
use Rattle.sp_frame.specs.declared.status.Status.{Status}
use Rattle.sp_frame.specs.declared.status.Status.TheVariants as status
use Rattle.sp_text.specs.declared.limits.TheConstants.{MOST_FILE_BYTES}
use Rattle.sp_frame.specs.Lines.{broken_order_line, limit_line, malformed_line, missing_line, not_admissible_line, too_long_line, words_line, work_line}
use Rattle.sp_frame.specs.Steps.{Step}

-- What a command answers: its lines; or certificates of something (its formulas), which more than one text spells. What
-- is certified, and which bytes spell certificates of it, is said by the crate that knows certificates.
pub data Answer (C : Type 0) : Type 0 where
  printed : List ℕ → Verdict → Answer C
  certified : C → Answer C

-- The work ends so: the words are no command, or a step is refused, or there is an answer.
pub data Ending (C : Type 0) : Type 0 where
  no_command : Ending C
  refused : Refusal → Ending C
  answered : Answer C → Ending C

-- the ending of work with this outcome
abbrev pub ending_of : {C : Type 0} → Result (Answer C) Refusal → Ending C
ending_of (Ok a) = answered a
ending_of (Err r) = refused r

-- the work may end so
abbrev pub EndsBy : {C : Type 0} → Step (Answer C) → Ending C → Type 0
EndsBy {C} work e = (out : Result (Answer C) Refusal) × work out × (e ≡ ending_of out)

-- ---- status

abbrev pub refused_status : Refusal → Status
refused_status (refusal.Missing name) = status.Missing
refused_status (refusal.TooLong name most) = status.Limit
refused_status refusal.LongWord = status.Limit
refused_status (refusal.Broken name m) = status.Malformed
refused_status (refusal.BrokenOrder name m first second) = status.Malformed
refused_status (refusal.Exceeded name l) = status.Limit
refused_status (refusal.NotAdmissible name number) = status.NotAdmissible
refused_status (refusal.Work limit) = status.Limit

abbrev pub judged_status : Verdict → Status
judged_status verdict.Ok = status.Ok
judged_status verdict.Refused = status.Refused
judged_status verdict.Conflict = status.Conflict

abbrev pub verdict_of : {C : Type 0} → Answer C → Verdict
verdict_of (printed bytes v) = v
verdict_of (certified c) = verdict.Ok

abbrev pub status_of : {C : Type 0} → Ending C → Status
status_of no_command = status.Words
status_of (refused r) = refused_status r
status_of (answered a) = judged_status (verdict_of a)

-- ---- bytes

abbrev pub refused_line : Refusal → List ℕ
refused_line (refusal.Missing name) = missing_line name
refused_line (refusal.TooLong name most) = too_long_line name most
refused_line refusal.LongWord = too_long_line (codes "LEVEL") MOST_FILE_BYTES
refused_line (refusal.Broken name m) = malformed_line name m
refused_line (refusal.BrokenOrder name m first second) = broken_order_line name m first second
refused_line (refusal.Exceeded name l) = limit_line name l
refused_line (refusal.NotAdmissible name number) = not_admissible_line name number
refused_line (refusal.Work limit) = work_line limit

module _ {C : Type 0} (spells : C → List ℕ → Type 0) where
  -- the bytes are those of the answer; certificates may be any that are spelt
  abbrev pub Shows : Answer C → List ℕ → Type 0
  Shows (printed lines v) bytes = bytes ≡ lines
  Shows (certified c) bytes = spells c bytes

  -- the bytes are those of the ending
  abbrev pub Prints : Ending C → List ℕ → Type 0
  Prints no_command bytes = bytes ≡ words_line
  Prints (refused r) bytes = bytes ≡ refused_line r
  Prints (answered a) bytes = Shows a bytes

  -- The work with its answer printed: what comes of the work of a command, as a step of what calls answer.
  abbrev pub Printing : Step (Answer C) → Step Printed
  Printing work (Ok p) = (a : Answer C) × work (Ok a) × Shows a p.bytes.items × (p.verdict ≡ verdict_of a)
  Printing work (Err r) = work (Err r)

  -- the bytes and the status are those of this ending
  abbrev pub Reports : Ending C → List ℕ → Status → Type 0
  Reports e bytes code = Prints e bytes × (code ≡ status_of e)

-- ---- what calls do

-- the bytes and the status are what is printed of the answer, or of the refusal
abbrev pub IsReportOf : Result Printed LoadStop → List ℕ → Status → Type 0
IsReportOf (Ok p) bytes code = (bytes ≡ p.bytes.items) × (code ≡ judged_status p.verdict)
IsReportOf (Err (load_stop.Refused r)) bytes code = (bytes ≡ refused_line r) × (code ≡ refused_status r)
IsReportOf (Err load_stop.ReadFault) bytes code = ⊥
IsReportOf (Err load_stop.Memory) bytes code = ⊥
