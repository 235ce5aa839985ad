-- What `prove` and `migrate` print is accepted by `verify`.
use Rattle.std.proofs.Common.{◌≡◌, ◌∙◌, ◌≤◌, ℕ, List, [], ◌∷◌, Option, Some, None, Ok, ap, length, refl, sym, subst}
use Rattle.std.specs.Prelude.{option_and_then}
use Rattle.sp_text.specs.declared.limits.TheConstants.{MOST_CERTIFICATE_BYTES}
use Rattle.sp_outside.specs.Files.{Files, first_file}
use Rattle.sp_core.specs.Parts.{Parts}
use Rattle.sp_formulas.specs.Formulas.{Formula, formulas as flow_formulas}
use Rattle.sp_cert.specs.Tree.{Tree}
use Rattle.sp_words.specs.Words.{Command, check, command_of, compare, formulas, hierarchy, migrate, prove, run, sample, verify}
use Rattle.sp_frame.specs.declared.refusal.Refusal.TheVariants as refusal
use Rattle.sp_frame.specs.declared.refusal.Verdict.TheVariants as verdict
use Rattle.sp_frame.specs.declared.status.Status.TheVariants as status
use Rattle.sp_frame.specs.Endings.{Answer, Ending, Reports, Shows, answered, certified, no_command, printed, refused, verdict_of}
use Rattle.sp_frame.specs.Uncertified.{Widened}
use Rattle.sp_formula_list.specs.Listed.{FormulasListed}
use Rattle.sp_prove_command.specs.Certificates as own
use Rattle.sp_prove_command.specs.Certificates.{AreCertificates, second_format}
use Rattle.sp_prove_command.specs.Laws.{CertifiedAreSpecified, ProvedAreChecked}
use Rattle.sp_prove_command.specs.Prove.{ProveDone}
use Rattle.sp_verify_command.specs.Laws.{Accepts, AreCertified, CertifiedAreAccepted, MigratedAreCertified, ReadAlike}
use Rattle.sp_verify_command.specs.Migrate.{MigrateDone}
use Rattle.sp_driver.specs.Certified.{Certified, spells}
use Rattle.sp_driver.specs.Laws.{PrintedAreAccepted, certifies}
use Rattle.sp_driver.specs.Report.{CommandDone, Ends, EndsAs}
use Rattle.sp_driver.specs.Run.{EndsAnswered}
use Rattle.sp_driver.proofs.Accepted.{done_of, lines_of, no_refusal_is_ok, ok_verdict}

-- the same of the words of `verify`
same_certified : (p : Parts) (os : List Formula) (ts : List Tree) → own.AreCertified p os ts → AreCertified p os ts
same_certified p [] [] h = tt
same_certified p [] (t ∷ ts) h = absurd h
same_certified p (o ∷ os) [] h = absurd h
same_certified p (o ∷ os) (t ∷ ts) h = (h.0, same_certified p os ts h.1)

module _ (specified : CertifiedAreSpecified) (beside : ProvedAreChecked) (accepted : CertifiedAreAccepted) (migrated : MigratedAreCertified) (files others : Files) (interface certs bytes : List ℕ)
    (alike : ReadAlike interface files others) (found : first_file certs others ≡ Some bytes) (short : length bytes ≤ MOST_CERTIFICATE_BYTES) where
  of_parts : (p : Parts) → ProveDone interface files (Ok (certified p)) → AreCertificates p bytes → Accepts interface certs others
  of_parts p h c =
      let s = specified files interface p h in
      let listed = subst (λ q. FormulasListed None q (Ok (flow_formulas q))) s.same s.listed in
      let own = subst (λ q. own.AreCertified q (flow_formulas q) c.trees) s.same c.certified in
      accepted others interface certs bytes s.system s.elaborated (flow_formulas s.elaborated.spec) (alike s.system s.read) s.judged listed found short
      (second_format c.trees, c.within, sym c.spelt, same_certified s.elaborated.spec (flow_formulas s.elaborated.spec) c.trees own)

  of_prove : (a : Answer Certified) → ProveDone interface files (Ok a) → Shows spells a bytes → verdict_of a ≡ verdict.Ok → Accepts interface certs others
  of_prove (certified p) h shown v = of_parts p h shown
  of_prove (printed text w) h shown v =
      let other = beside files interface (Ok (printed text w)) h in
      let never : verdict.Refused ≡ verdict.Ok = sym other.2.0 ∙ v in
      absurd cc

  of_migrate : (given : List ℕ) (a : Answer Certified) → Widened (MigrateDone interface given files) (Ok a) → Shows spells a bytes → verdict_of a ≡ verdict.Ok → Accepts interface certs others
  of_migrate given a h shown v =
      let l = lines_of _ a h in
      let same : l.1 ≡ verdict.Ok = sym (ap verdict_of l.3) ∙ v in
      let text : bytes ≡ l.0 = subst (λ b. Shows spells b bytes) l.3 shown in
      let done = subst (λ t. MigrateDone interface given files (Ok (printed t verdict.Ok))) (sym text) (subst (λ w. MigrateDone interface given files (Ok (printed l.0 w))) same l.2) in
      let m = migrated files interface given bytes done in
      accepted others interface certs bytes m.system m.elaborated m.listed (alike m.system m.read) m.judged m.formulas found short (m.file, m.good, m.spelled, m.certified)

  of_command : (command : Command) (a : Answer Certified) → certifies command ≡ Some interface → CommandDone command files (Ok a) → Shows spells a bytes → verdict_of a ≡ verdict.Ok → Accepts interface certs others
  of_command (prove given) a e h shown v =
      let same : given ≡ interface = cc in
      of_prove a (subst (λ i. ProveDone i files (Ok a)) same h) shown v
  of_command (migrate given old) a e h shown v =
      let same : given ≡ interface = cc in
      of_migrate old a (subst (λ i. Widened (MigrateDone i old files) (Ok a)) same h) shown v
  of_command (check given) a e h shown v = absurd cc
  of_command (formulas given) a e h shown v = absurd cc
  of_command (verify given old) a e h shown v = absurd cc
  of_command (run given instance script) a e h shown v = absurd cc
  of_command (compare given instance script level) a e h shown v = absurd cc
  of_command (hierarchy whole) a e h shown v = absurd cc
  of_command (sample size) a e h shown v = absurd cc

  of_ending : (command : Option Command) (e : Ending Certified) → option_and_then certifies command ≡ Some interface → EndsAs command files e → Reports spells e bytes status.Ok → Accepts interface certs others
  of_ending None e is h r = absurd cc
  of_ending (Some command) no_command is h r = let never = r.1 in absurd cc
  of_ending (Some command) (refused x) is h r = absurd (no_refusal_is_ok x (sym r.1))
  of_ending (Some command) (answered a) is h r = of_command command a is (done_of command files a h) r.0 (ok_verdict (verdict_of a) (sym r.1))

-- and then `verify` ends so
ends_accepted : (again : List (List ℕ)) (others : Files) (interface certs : List ℕ) → command_of again ≡ Some (verify interface certs) → Accepts interface certs others → EndsAnswered again verdict.Ok others
ends_accepted again others interface certs is h =
    let a : Answer Certified = printed h.0 verdict.Ok in
    (a, subst (λ c. EndsAs c others (answered a)) (sym is) (Ok a, (Ok (printed h.0 verdict.Ok), h.1, refl), refl), refl)

pub printed_accepted : CertifiedAreSpecified → ProvedAreChecked → CertifiedAreAccepted → MigratedAreCertified → PrintedAreAccepted
printed_accepted specified beside accepted migrated words again files others interface certs bytes e is ends shown other alike found short =
    ends_accepted again others interface certs other (of_ending specified beside accepted migrated files others interface certs bytes alike found short (command_of words) e is ends shown)
