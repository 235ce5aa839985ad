-- Each status comes exactly where its cause is.
use Rattle.std.proofs.Common.{◌≡◌, ◌⊎◌, ◌∙◌, ℕ, List, Bool, Option, Some, None, Result, Ok, Err, IsTrue, true, false, inl, inr, refl, sym, ap, subst}
use Rattle.std.specs.Prelude.{IfOk, IfSome, MatchResult}
use Rattle.sp_outside.specs.Files.{Files}
use Rattle.sp_outside.specs.Written.{Appends, AppendsPrefix}
use Rattle.sp_words.specs.Words.{Command, command_of}
use Rattle.sp_frame.specs.declared.refusal.Refusal.{Refusal}
use Rattle.sp_frame.specs.declared.refusal.Refusal.TheVariants as refusal
use Rattle.sp_frame.specs.declared.refusal.Verdict.{Verdict}
use Rattle.sp_frame.specs.declared.refusal.Verdict.TheVariants as verdict
use Rattle.sp_frame.specs.declared.refusal.LoadStop.{LoadStop}
use Rattle.sp_frame.specs.declared.refusal.Printed.{Printed}
use Rattle.sp_frame.specs.declared.report.Failure.{Failure}
use Rattle.sp_frame.specs.declared.report.Report.{Report}
use Rattle.sp_frame.specs.declared.status.Status.{Status}
use Rattle.sp_frame.specs.declared.status.Status.TheVariants as status
use Rattle.sp_frame.specs.Endings.{Answer, Ending, IsReportOf, Printing, Reports, answered, ending_of, judged_status, no_command, refused, status_of, verdict_of}
use Rattle.sp_frame.specs.Laws.{IsDue}
use Rattle.sp_frame.specs.Status.{IsFailure, is_reported}
use Rattle.sp_driver.specs.Certified.{Certified, spells}
use Rattle.sp_driver.specs.Report.{CommandDone, Ends, EndsAs}
use Rattle.sp_driver.specs.Run.{CauseOf, CutShort, EndsAnswered, HasReport, IsWritten, IsCaused, IsDetermined, Reported}
use Rattle.sp_frame.specs.Steps.{DoesLoad}
use Rattle.sp_frame.proofs.Connective.{reports_ending}
use Rattle.sp_driver.specs.Laws.{CommandLaw}
use Rattle.sp_driver.proofs.Commands.{once}

module _ (law : CommandLaw) (words : List (List ℕ)) (files : Files) where
  due_as : (command : Option Command) (r : Refusal) → EndsAs command files (refused r) → IsDue files r
  due_as None r p = absurd cc
  due_as (Some command) r p = by p.0 p.1 p.2
    where
      by : (out : Result (Answer Certified) Refusal) → CommandDone command files out → refused r ≡ ending_of out → IsDue files r
      by (Ok a) h e = absurd cc
      by (Err s) h e = let same : r ≡ s = cc in subst (IsDue files) (sym same) ((law files command).due s h)

  words_none : (command : Option Command) → EndsAs command files no_command → command ≡ None
  words_none None h = refl
  words_none (Some command) h = absurd (by h.0 h.2)
    where
      by : (out : Result (Answer Certified) Refusal) → no_command ≡ ending_of out → ⊥
      by (Ok a) e = cc
      by (Err r) e = cc

  cause_of : (e : Ending Certified) → Ends words files e → CauseOf words (status_of e) files
  cause_of no_command h = words_none (command_of words) h
  cause_of (refused (refusal.Missing name)) h = (name, h, due_as (command_of words) _ h)
  cause_of (refused (refusal.TooLong name most)) h = inl (name, most, h, due_as (command_of words) _ h)
  cause_of (refused refusal.LongWord) h = inr (inr (inr h))
  cause_of (refused (refusal.Broken name m)) h = inl (name, m, h)
  cause_of (refused (refusal.BrokenOrder name m first second)) h = inr (name, m, first, second, h)
  cause_of (refused (refusal.Exceeded name l)) h = inr (inl (name, l, h))
  cause_of (refused (refusal.NotAdmissible name number)) h = (name, number, h)
  cause_of (refused (refusal.Work limit)) h = inr (inr (inl (limit, h)))
  cause_of (answered a) h = answer (verdict_of a) refl
    where
      answer : (v : Verdict) → verdict_of a ≡ v → CauseOf words (judged_status v) files
      answer verdict.Ok e = (a, h, e)
      answer verdict.Refused e = (a, h, e)
      answer verdict.Conflict e = (a, h, e)

  -- an ending of this status
  abbrev EndsWith : Status → Type 0
  EndsWith code = (e : Ending Certified) × Ends words files e × (status_of e ≡ code)

  answered_with : (v : Verdict) → EndsAnswered words v files → EndsWith (judged_status v)
  answered_with v h = (answered h.0, h.1, ap judged_status h.2)

  ending_with : (code : Status) → CauseOf words code files → EndsWith code
  ending_with status.Ok h = answered_with verdict.Ok h
  ending_with status.Refused h = answered_with verdict.Refused h
  ending_with status.Conflict h = answered_with verdict.Conflict h
  ending_with status.Malformed (inl h) = (_, h.2, refl)
  ending_with status.Malformed (inr h) = (_, h.4, refl)
  ending_with status.Words h = (no_command, subst (λ c. EndsAs c files no_command) (sym h) refl, refl)
  ending_with status.Missing h = (_, h.1, refl)
  ending_with status.Limit (inl h) = (_, h.2, refl)
  ending_with status.Limit (inr (inl h)) = (_, h.2, refl)
  ending_with status.Limit (inr (inr (inl h))) = (_, h.1, refl)
  ending_with status.Limit (inr (inr (inr h))) = (_, h, refl)
  ending_with status.NotAdmissible h = (_, h.2, refl)
  ending_with status.ReadFault h = absurd h
  ending_with status.WriteFault h = absurd h
  ending_with status.Memory h = absurd h

  -- ---- the rows of the top call

  module _ (before now : Option (List ℕ)) (result : Status) (reported : IsTrue (is_reported result) → Reported words result before now files) where
    at_ending : IsDetermined words result before now files
    at_ending e h = by (is_reported result) refl
      where
        by : (b : Bool) → is_reported result ≡ b → ((bytes : List ℕ) × Reports spells e bytes result × Appends before now bytes) ⊎ IsFailure result
        by true t =
            let r = reported t in
            inl (r.1, subst (λ f. Reports spells f r.1 result) (once law files words r.0 e r.2 h) r.3, r.4)
        by false t = inr t

    at_cause : IsCaused words result files
    at_cause = record {
      only = λ t. let r = reported t in subst (λ code. CauseOf words code files) (sym r.3.1) (cause_of r.0 r.2);
      always = λ code cause.
          let e = ending_with code cause in
          elim (at_ending e.0 e.1) [ inl p ↦ inl (p.1.1 ∙ e.2) | inr f ↦ inr f ];
    }

module _ (law : CommandLaw) (words : List (List ℕ)) (before now : Option (List ℕ)) (result : Status) where
  pub determined : (told : Option Files) → (IsTrue (is_reported result) → IfSome told (Reported words result before now)) → IfSome told (IsDetermined words result before now)
  determined None h = tt
  determined (Some files) h = at_ending law words files before now result h

  pub caused : (told : Option Files) → (IsTrue (is_reported result) → IfSome told (Reported words result before now)) → IfSome told (IsCaused words result)
  caused None h = tt
  caused (Some files) h = at_cause law words files before now result h

  -- what was written is the report of an ending of the words
  pub reported : (told : Option Files) (ended : Result Report Failure) → IfOk ended (λ r. IfSome told (HasReport words r.bytes.items r.status))
      → (IsTrue (is_reported result) → MatchResult ended (λ r. IsWritten before now r result) (λ _. ⊥)) → IsTrue (is_reported result) → IfSome told (Reported words result before now)
  reported None ended has wrote t = tt
  reported (Some files) (Ok r) has wrote t = let w = wrote t in (has.0, r.bytes.items, has.1, (has.2.0, w.1 ∙ has.2.1), w.0)
  reported (Some files) (Err f) has wrote t = absurd (wrote t)

pub cut_short : (words : List (List ℕ)) (before now : Option (List ℕ)) (told : Option Files) (ended : Result Report Failure) → IfOk ended (λ r. IfSome told (HasReport words r.bytes.items r.status))
    → MatchResult ended (λ r. AppendsPrefix before now r.bytes.items) (λ _. ⊥) → IfSome told (CutShort words before now)
cut_short words before now None ended has wrote = tt
cut_short words before now (Some files) (Ok r) has wrote = (has.0, r.bytes.items, has.1, has.2.0, wrote)
cut_short words before now (Some files) (Err f) has wrote = absurd wrote

-- the report of a command's answer, or of its refusal, is that of an ending of the words
pub command_report : (words : List (List ℕ)) (command : Command) (told : Option Files) (ended : Result Printed LoadStop) (r : Result Report Failure) → command_of words ≡ Some command
    → IfSome told (λ files. DoesLoad (Printing spells (CommandDone command files)) ended) → IfOk r (λ report. IsReportOf ended report.bytes.items report.status)
    → IfOk r (λ report. IfSome told (HasReport words report.bytes.items report.status))
command_report words command told ended (Err f) is does shown = tt
command_report words command None ended (Ok report) is does shown = tt
command_report words command (Some files) ended (Ok report) is does shown =
    let e = reports_ending spells (CommandDone command files) ended _ _ does shown in
    (e.0, subst (λ c. EndsAs c files e.0) (sym is) e.1, e.2)
