-- `sample` loads no file and has no assertion, so it isn't answered as commands are that do.
use Rattle.std.proofs.Common.{◌≡◌, ◌∙◌, ◌≤◌, ℕ, List, Option, Some, Result, Ok, Err, IsTrue, refl, sym, subst}
use Rattle.std.specs.Prelude.{IfOk, MatchResult}
use Rattle.sp_words.specs.Words.{Command, IsSized, sample}
use Rattle.sp_frame.specs.declared.refusal.LoadStop.{LoadStop}
use Rattle.sp_frame.specs.declared.refusal.LoadStop.TheVariants as load_stop
use Rattle.sp_frame.specs.declared.refusal.Printed.{Printed}
use Rattle.sp_frame.specs.declared.refusal.Refusal.{Refusal}
use Rattle.sp_frame.specs.declared.refusal.Refusal.TheVariants as refusal
use Rattle.sp_frame.specs.declared.refusal.Verdict.{Verdict}
use Rattle.sp_frame.specs.declared.refusal.Verdict.TheVariants as verdict
use Rattle.sp_frame.specs.declared.report.Failure.{Failure}
use Rattle.sp_frame.specs.declared.report.Report.{Report}
use Rattle.sp_frame.specs.declared.status.Status.{Status}
use Rattle.sp_frame.specs.declared.status.Status.TheVariants as status
use Rattle.sp_frame.specs.Endings.{IsReportOf, Printing, judged_status, refused_status}
use Rattle.sp_frame.specs.Status.{is_reported}
use Rattle.sp_frame.specs.declared.refusal.Stop.{Stop}
use Rattle.sp_frame.specs.declared.refusal.Stop.TheVariants as stop
use Rattle.sp_frame.specs.Steps.{Does, DoesLoad, Step, as_loading}
use Rattle.sp_frame.specs.Uncertified.{spells}
use Rattle.sp_sample_command.specs.Sample.{SampleDone}
use Rattle.sp_sample_command.specs.Secure.{AssertsNothing, LoadsNothing}
use Rattle.sp_driver.specs.Report.{IsLoading, IsUnloaded}
use Rattle.sp_driver.specs.Run.{IsWritten}

-- ---- the work

does_load : (step : Step Printed) (r : Result Printed Stop) → Does step r → DoesLoad step (as_loading r)
does_load step (Ok p) h = h
does_load step (Err (stop.Refused r)) h = h
does_load step (Err stop.Memory) h = tt

pub sample_alone : (own size : ℕ) (r : Result Printed Stop) (l : Result Printed LoadStop) → Does (Printing spells (SampleDone own)) r → l ≡ as_loading r → sample own ≡ sample size
    → DoesLoad (Printing spells (SampleDone size)) l
sample_alone own size r l does is e =
    let same : own ≡ size = cc in
    subst (DoesLoad (Printing spells (SampleDone size))) (sym is) (does_load (Printing spells (SampleDone size)) r (subst (λ n. Does (Printing spells (SampleDone n)) r) same does))

-- no read failed where nothing was loaded
pub never_failed : (r : Result Printed Stop) → as_loading r ≡ Err load_stop.ReadFault → ⊥
never_failed (Ok p) e = cc
never_failed (Err (stop.Refused r)) e = cc
never_failed (Err stop.Memory) e = cc

-- ---- the report

judged : (v : Verdict) → IsUnloaded (judged_status v)
judged verdict.Ok = record { none_missing = λ e. cc; none_failed = λ e. cc; none_false = λ e. cc }
judged verdict.Refused = record { none_missing = λ e. cc; none_failed = λ e. cc; none_false = λ e. cc }
judged verdict.Conflict = record { none_missing = λ e. cc; none_failed = λ e. cc; none_false = λ e. cc }

limited : IsUnloaded status.Limit
limited = record { none_missing = λ e. cc; none_failed = λ e. cc; none_false = λ e. cc }

malformed : IsUnloaded status.Malformed
malformed = record { none_missing = λ e. cc; none_failed = λ e. cc; none_false = λ e. cc }

module _ (size : ℕ) (few : size ≤ 100) (asserts : AssertsNothing) (loads : LoadsNothing size) where
  refused : (r : Refusal) → SampleDone size (Err r) → IsUnloaded (refused_status r)
  refused (refusal.Missing name) h = absurd (loads.none_missing name h)
  refused (refusal.TooLong name most) h = limited
  refused refusal.LongWord h = limited
  refused (refusal.Broken name m) h = malformed
  refused (refusal.BrokenOrder name m first second) h = malformed
  refused (refusal.Exceeded name l) h = limited
  refused (refusal.NotAdmissible name number) h = absurd (asserts size few name number h)
  refused (refusal.Work limit) h = limited

  of_ended : (ended : Result Printed LoadStop) (bytes : List ℕ) (code : Status) → DoesLoad (Printing spells (SampleDone size)) ended → IsReportOf ended bytes code → IsUnloaded code
  of_ended (Ok p) bytes code h e = subst IsUnloaded (sym e.1) (judged p.verdict)
  of_ended (Err (load_stop.Refused r)) bytes code h e = subst IsUnloaded (sym e.1) (refused r h)
  of_ended (Err load_stop.ReadFault) bytes code h e = absurd e
  of_ended (Err load_stop.Memory) bytes code h e = absurd e

  of_report : (ended : Result Printed LoadStop) (r : Result Report Failure) → DoesLoad (Printing spells (SampleDone size)) ended → IfOk r (λ report. IsReportOf ended report.bytes.items report.status)
      → IfOk r (λ report. IsUnloaded report.status)
  of_report ended (Err f) h shows = tt
  of_report ended (Ok report) h shows = of_ended ended report.bytes.items report.status h shows

pub report_unloaded : AssertsNothing → ((n : ℕ) → LoadsNothing n) → (words : Option Command) (command : Command) (ended : Result Printed LoadStop) (r : Result Report Failure) → words ≡ Some command → IsSized command
    → ((size : ℕ) → command ≡ sample size → DoesLoad (Printing spells (SampleDone size)) ended) → IfOk r (λ report. IsReportOf ended report.bytes.items report.status)
    → (size : ℕ) → words ≡ Some (sample size) → IfOk r (λ report. IsUnloaded report.status)
report_unloaded asserts loads words command ended r is sized alone shows size e =
    let both : Some command ≡ Some (sample size) = sym is ∙ e in
    let same : command ≡ sample size = cc in
    of_report size (subst IsSized same sized).1 asserts (loads size) ended r (alone size same) shows

-- ---- what was written

written : (before now : Option (List ℕ)) (result : Status) (ended : Result Report Failure) → IfOk ended (λ report. IsUnloaded report.status)
    → MatchResult ended (λ report. IsWritten before now report result) (λ _. ⊥) → IsUnloaded result
written before now result (Ok report) h w = subst IsUnloaded (sym w.1) h
written before now result (Err f) h w = absurd w

pub run_unloaded : (words : Option Command) (before now : Option (List ℕ)) (result : Status) (ended : Result Report Failure)
    → ((size : ℕ) → words ≡ Some (sample size) → IfOk ended (λ report. IsUnloaded report.status))
    → (IsTrue (is_reported result) → MatchResult ended (λ report. IsWritten before now report result) (λ _. ⊥)) → (result ≡ status.ReadFault → IsLoading words)
    → (size : ℕ) → words ≡ Some (sample size) → IsUnloaded result
run_unloaded words before now result ended reports whole loading size is =
    let own : IsTrue (is_reported result) → IsUnloaded result = λ t. written before now result ended (reports size is) (whole t) in
    record {
      none_missing = λ e. (own (subst (λ s. IsTrue (is_reported s)) (sym e) refl)).none_missing e;
      none_failed = λ e. subst IsLoading is (loading e);
      none_false = λ e. (own (subst (λ s. IsTrue (is_reported s)) (sym e) refl)).none_false e;
    }
