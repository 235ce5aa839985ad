-- Where an interface, a hierarchy or a sample is accepted, it is secure.
use Rattle.std.proofs.Common.{◌≡◌, ◌∙◌, ℕ, List, Option, Some, None, Result, Ok, Err, IsTrue, refl, sym, ap, subst}
use Rattle.std.specs.Prelude.{IfSome}
use Rattle.sp_outside.specs.Files.{Files}
use Rattle.sp_words.specs.Words.{Command, check, command_of, compare, formulas, hierarchy, migrate, prove, run, sample, verify}
use Rattle.sp_frame.specs.declared.refusal.Refusal.{Refusal}
use Rattle.sp_frame.specs.declared.refusal.Refusal.TheVariants as refusal
use Rattle.sp_frame.specs.declared.refusal.Verdict.{Verdict}
use Rattle.sp_frame.specs.declared.refusal.Verdict.TheVariants as verdict
use Rattle.sp_frame.specs.declared.status.Status.{Status}
use Rattle.sp_frame.specs.declared.status.Status.TheVariants as status
use Rattle.sp_frame.specs.Endings.{Answer, Ending, answered, certified, ending_of, judged_status, no_command, printed, refused, refused_status, status_of, verdict_of}
use Rattle.sp_frame.specs.Status.{is_reported}
use Rattle.sp_frame.specs.Steps.{Gives, Onward, Step}
use Rattle.sp_frame.specs.Uncertified.{Lines, Widened, widen}
use Rattle.sp_check_command.specs.Secure.{AcceptedAreSecure, IsSecureInterface}
use Rattle.sp_prove_command.specs.Laws.{ProvedAreChecked, ProvedAreSecure}
use Rattle.sp_prove_command.specs.Prove.{ProveDone}
use Rattle.sp_verify_command.specs.Laws.{VerifiedAreSecure}
use Rattle.sp_hierarchy_command.specs.Secure.{AcceptedHierarchiesAreSecure}
use Rattle.sp_sample_command.specs.Secure.{SampledAreSecure}
use Rattle.sp_driver.specs.Certified.{Certified}
use Rattle.sp_driver.specs.Report.{CommandDone, EndsAs}
use Rattle.sp_driver.specs.Run.{AcceptsSecure, Reported}
use Rattle.sp_driver.specs.Secure.{AskedIsSecure}

pub no_refusal_is_ok : (r : Refusal) → refused_status r ≡ status.Ok → ⊥
no_refusal_is_ok (refusal.Missing name) e = cc
no_refusal_is_ok (refusal.TooLong name most) e = cc
no_refusal_is_ok refusal.LongWord e = cc
no_refusal_is_ok (refusal.Broken name m) e = cc
no_refusal_is_ok (refusal.BrokenOrder name m first second) e = cc
no_refusal_is_ok (refusal.Exceeded name l) e = cc
no_refusal_is_ok (refusal.NotAdmissible name number) e = cc
no_refusal_is_ok (refusal.Work limit) e = cc

pub ok_verdict : (v : Verdict) → judged_status v ≡ status.Ok → v ≡ verdict.Ok
ok_verdict verdict.Ok e = refl
ok_verdict verdict.Refused e = absurd cc
ok_verdict verdict.Conflict e = absurd cc

-- the answer of a command that certifies nothing
pub lines_of : (step : Step Lines) (a : Answer Certified) → Widened step (Ok a) → (bytes : List ℕ) × (v : Verdict) × step (Ok (printed bytes v)) × (a ≡ printed bytes v)
lines_of step a (Ok (printed bytes v), h, e) = (bytes, v, h, cc)
lines_of step a (Ok (certified c), h, e) = absurd c
lines_of step a (Err r, h, e) = absurd cc

-- it accepts
lines_accept : (step : Step Lines) (a : Answer Certified) → Widened step (Ok a) → verdict_of a ≡ verdict.Ok → (bytes : List ℕ) × step (Ok (printed bytes verdict.Ok))
lines_accept step a h ok =
    let l = lines_of step a h in
    let same : l.1 ≡ verdict.Ok = sym (ap verdict_of l.3) ∙ ok in
    (l.0, subst (λ v. step (Ok (printed l.0 v))) same l.2)

-- what a command answered, from its ending
pub done_of : (command : Command) (files : Files) (a : Answer Certified) → EndsAs (Some command) files (answered a) → CommandDone command files (Ok a)
done_of command files a h = by h.0 h.1 h.2
  where
    by : (out : Result (Answer Certified) Refusal) → CommandDone command files out → answered a ≡ ending_of out → CommandDone command files (Ok a)
    by (Err r) d e = absurd cc
    by (Ok b) d e = let same : b ≡ a = cc in subst (λ x. CommandDone command files (Ok x)) same d

module _ (checks : AcceptedAreSecure) (proves : ProvedAreSecure) (beside : ProvedAreChecked) (verifies : VerifiedAreSecure) (samples : SampledAreSecure) (hierarchies : AcceptedHierarchiesAreSecure) (files : Files) where
  of_certificates : (interface : List ℕ) (a : Answer Certified) → ProveDone interface files (Ok a) → verdict_of a ≡ verdict.Ok → IsSecureInterface interface files
  of_certificates interface (certified p) h v = proves files interface p h
  of_certificates interface (printed bytes w) h v =
      let other = beside files interface (Ok (printed bytes w)) h in
      let never : verdict.Refused ≡ verdict.Ok = sym other.2.0 ∙ v in
      absurd cc

  of_command : (command : Command) (a : Answer Certified) → CommandDone command files (Ok a) → verdict_of a ≡ verdict.Ok → AskedIsSecure (Some command) files
  of_command (check interface) a h v = let l = lines_accept _ a h v in checks files interface l.0 l.1
  of_command (prove interface) a h v = of_certificates interface a h v
  of_command (verify interface certs) a h v = let l = lines_accept _ a h v in verifies files interface certs l.0 l.1
  of_command (sample size) a h v = let l = lines_accept _ a h v in samples size l.0 l.1
  of_command (formulas interface) a h v = tt
  of_command (migrate interface certs) a h v = tt
  of_command (run interface instance script) a h v = tt
  of_command (compare interface instance script level) a h v = tt
  of_command (hierarchy whole) a h v =
      let l = lines_accept _ a h v in
      hierarchies whole files (printed l.0 verdict.Ok) l.1 refl

  of_ending : (command : Option Command) (e : Ending Certified) → EndsAs command files e → status_of e ≡ status.Ok → AskedIsSecure command files
  of_ending None e h s = tt
  of_ending (Some command) no_command h s = absurd cc
  of_ending (Some command) (refused r) h s = absurd (no_refusal_is_ok r s)
  of_ending (Some command) (answered a) h s = of_command command a (done_of command files a h) (ok_verdict (verdict_of a) s)

pub accepts : AcceptedAreSecure → ProvedAreSecure → ProvedAreChecked → VerifiedAreSecure → SampledAreSecure → AcceptedHierarchiesAreSecure → (words : List (List ℕ)) (before now : Option (List ℕ)) (result : Status) (told : Option Files) →
    (IsTrue (is_reported result) → IfSome told (Reported words result before now)) → result ≡ status.Ok → IfSome told (AcceptsSecure words)
accepts checks proves beside verifies samples hierarchies words before now result None h ok = tt
accepts checks proves beside verifies samples hierarchies words before now result (Some files) h ok =
    let r = h (subst (λ s. IsTrue (is_reported s)) (sym ok) refl) in
    of_ending checks proves beside verifies samples hierarchies files (command_of words) r.0 r.2 (sym r.3.1 ∙ ok)
