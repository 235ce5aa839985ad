-- What follows where `verify` and `migrate` accept, and what `verify` accepts.
use Rattle.std.proofs.Common.{◌≡◌, ◌∙◌, ℕ, List, None, Ok, ap, refl, subst, sym}
use Rattle.std.specs.List.{All}
use Rattle.sp_core.specs.Parts.{Parts}
use Rattle.sp_cert.specs.Spelling.{spelling}
use Rattle.sp_cert.specs.Tree.{File}
use Rattle.sp_checker.specs.Lifts.{FirstFormatIsPlain, LiftedIsSpelled}
use Rattle.sp_checker.specs.Migration.{LiftedChecks}
use Rattle.sp_formulas.specs.Formulas.{Formula, formulas}
use Rattle.sp_formulas.specs.Limits.{first_fault}
use Rattle.sp_verdicts.specs.Laws.{CertifiedAreClosed}
use Rattle.sp_frame.specs.declared.refusal.Verdict.{Verdict}
use Rattle.sp_frame.specs.declared.refusal.Verdict.TheVariants as verdict
use Rattle.sp_frame.specs.Endings.{certified as certificates, printed, verdict_of}
use Rattle.sp_frame.specs.Uncertified.{Lines}
use Rattle.sp_formula_list.proofs.Given.{listing_is}
use Rattle.sp_deciding.specs.Laws.{IsClosed}
use Rattle.sp_check_command.specs.Secure.{ClosedAreSecure}
use Rattle.sp_verify_command.specs.Judged.{file_verdict, verify_text}
use Rattle.sp_verify_command.specs.Laws.{CertifiedAreAccepted, MigratedAreAccepted, MigratedAreCertified, VerifiedAreSecure}
use Rattle.sp_verify_command.specs.Migrate.{MigrateDone, migrate_answer, migrate_by, migrated}
use Rattle.sp_verify_command.specs.Verify.{VerifyDone, verify_answer}
use Rattle.sp_verify_command.proofs.Certified.{accepted, certified, closed}
use Rattle.sp_verify_command.proofs.Chain.{comes, does, reads_spelled}
use Rattle.sp_verify_command.proofs.Migrated.{migrated_good}

abbrev verify_of : Parts → List Formula → File → Lines
verify_of p os f = verify_answer p os f.trees

pub verified_secure : CertifiedAreClosed → ClosedAreSecure → VerifiedAreSecure
unfolding VerifyDone
verified_secure closed_law secure_law files interface certs bytes h =
    let c = comes verify_of interface certs files (printed bytes verdict.Ok) h in
    let p = c.elaborated.spec in
    let ok : file_verdict p c.listed c.file.trees ≡ verdict.Ok = sym (ap verdict_of c.is) in
    let all = closed p closed_law c.listed c.file.trees (certified p c.listed c.file.trees ok) in
    secure_law files interface c.system c.elaborated c.read c.judged (subst (All (IsClosed p)) (listing_is None (formulas p) c.listed (first_fault p 1 (formulas p)) c.formulas) all)

pub certified_accepted : CertifiedAreAccepted
unfolding VerifyDone
certified_accepted files interface certs bytes x e os read judged formulas found short (f, good, is, all) =
    let ok = accepted e.spec os f.trees all in (
      verify_text e.spec os f.trees,
      subst (λ v. VerifyDone interface certs files (Ok (printed (verify_text e.spec os f.trees) v))) ok
          (does verify_of interface certs files x f e os read (reads_spelled certs files bytes f found short good is) judged formulas),
    )

-- ---- what is migrated

abbrev bytes_of : Lines → List ℕ
bytes_of (printed bytes v) = bytes
bytes_of (certificates c) = absurd c

module _ (p : Parts) (os : List Formula) (f : File) (bytes : List ℕ) where
  -- bytes that accept are those of the migrated file
  migrated_by : (v : Verdict) → file_verdict p os f.trees ≡ v → printed bytes verdict.Ok ≡ migrate_by p os f v → (file_verdict p os f.trees ≡ verdict.Ok) × (spelling (migrated p os f) ≡ bytes)
  migrated_by verdict.Ok is e = (is, sym (ap bytes_of e))
  migrated_by verdict.Refused is e = absurd (let both : verdict.Ok ≡ verdict.Refused = ap verdict_of e ∙ is in cc)
  migrated_by verdict.Conflict is e = absurd (let both : verdict.Ok ≡ verdict.Conflict = ap verdict_of e ∙ is in cc)

module _ (plain : FirstFormatIsPlain) (checks : LiftedChecks) (spelled : LiftedIsSpelled) where
  pub migrated_certified : MigratedAreCertified
  unfolding MigrateDone
  migrated_certified files interface certs bytes h =
      let c = comes migrate_answer interface certs files (printed bytes verdict.Ok) h in
      let p = c.elaborated.spec in
      let m = migrated_by p c.listed c.file bytes (file_verdict p c.listed c.file.trees) refl c.is in
      let g = migrated_good p c.listed c.file c.good spelled (certified p c.listed c.file.trees m.0) plain checks in
      record {
        system = c.system;
        elaborated = c.elaborated;
        listed = c.listed;
        read = c.read;
        judged = c.judged;
        formulas = c.formulas;
        file = migrated p c.listed c.file;
        good = g.good;
        format = g.format;
        spelled = m.1;
        certified = g.certified;
      }

pub migrated_accepted : CertifiedAreAccepted → MigratedAreCertified → MigratedAreAccepted
migrated_accepted accepts migrates files others interface certs bytes h alike found short =
    let m = migrates files interface certs bytes h in
    accepts others interface certs bytes m.system m.elaborated m.listed (alike m.system m.read) m.judged m.formulas found short (m.file, m.good, m.spelled, m.certified)
