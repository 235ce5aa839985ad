-- A report of `verify` with a line that begins with ACCEPTED is one that accepts.
use Rattle.std.proofs.Common.{◌≡◌, ◌∙◌, ℕ, zero, suc, ◌+◌, List, [], ◌∷◌, ◌++◌, Option, None, Some, Result, Ok, Err, ap, codes, length, refl, sym, subst}
use Rattle.std.specs.Fmt.{decimal}
use Rattle.std.specs.List.{All}
use Rattle.std.proofs.lemmas.List.Elements.{All-head, All-tail}
use Rattle.sp_outside.specs.Files.{Files}
use Rattle.sp_rules.specs.declared.fact.Fact.{Fact}
use Rattle.sp_rules.specs.declared.fact.Fact.TheVariants as fact
use Rattle.sp_rules.specs.declared.fact.Lack.{Lack}
use Rattle.sp_rules.specs.declared.fact.Lack.TheVariants as lack
use Rattle.sp_cert.specs.Spelling.{fact_words}
use Rattle.sp_cert.specs.Tree.{File, Tree}
use Rattle.sp_cert.specs.declared.cert.CertFault.{CertFault}
use Rattle.sp_cert.specs.declared.cert.CertFault.TheVariants as fault
use Rattle.sp_core.specs.Parts.{Parts}
use Rattle.sp_formulas.specs.Formulas.{Formula, formulas}
use Rattle.sp_formulas.specs.Limits.{first_fault}
use Rattle.sp_report.specs.Faults.{fault_text, lack_text}
use Rattle.sp_report.specs.Headings.{heading, interface_line}
use Rattle.sp_frame.specs.declared.refusal.Refusal.{Refusal}
use Rattle.sp_frame.specs.declared.refusal.Verdict.{Verdict}
use Rattle.sp_frame.specs.declared.refusal.Verdict.TheVariants as verdict
use Rattle.sp_frame.specs.Endings.{printed, verdict_of}
use Rattle.sp_frame.specs.Files.{FileRead}
use Rattle.sp_frame.specs.Steps.{Onward}
use Rattle.sp_formula_list.specs.Listed.{FormulasListed}
use Rattle.sp_formula_list.proofs.Given.{listing_is}
use Rattle.sp_sorts.specs.Certificates.{certificates}
use Rattle.sp_system.specs.System.{SystemJudged, SystemRead}
use Rattle.sp_system.specs.declared.interface.Elaborated.{Elaborated}
use Rattle.sp_system.specs.declared.system.System.{System}
use Rattle.sp_verify_command.specs.Judged.{closing_line, extra_count, extra_line, file_verdict, judgement_line, judgement_lines, judgement_text, judgements, refused_count, verify_text}
use Rattle.sp_verify_command.specs.Laws.{VerifiedAreSecure}
use Rattle.sp_verify_command.specs.Verify.{TextsRead, VerifyAnswered, VerifyDone, VerifyWork, verify_answer}
use Rattle.sp_verify_command.specs.declared.judging.Judgement.{Judgement}
use Rattle.sp_verify_command.specs.declared.judging.Judgement.TheVariants as judgement
use Rattle.sp_verify_command.specs.declared.reading.Texts.{Texts}
use Rattle.sp_plain_names.specs.Names.{HasPlainNames}
use Rattle.sp_plain_names.proofs.Systems.{system_names}
use Rattle.sp_headline.specs.Laws.{VerifiedLinesLaw}
use Rattle.sp_headline.specs.Lines.{HoldsAccepted}
use Rattle.sp_headline.proofs.Digits.{decimal_free}
use Rattle.sp_headline.proofs.Named.{IsNamed, formulas_named}
use Rattle.sp_headline.proofs.Reports.{heading_quiet, interface_quiet}
use Rattle.sp_headline.proofs.Texts.{EndsLine, Free, InQuietLines, append_assoc, ends_behind, ends_with, free_append, none_accepted, quiet_append, quiet_line, quiet_nothing}

-- ---- what is wrong with a certificate

fact_free : (f : Fact) → Free (fact_words f)
fact_free (fact.Eq i j) = free_append (codes "EQ ") (decimal i ++ (codes " " ++ decimal j)) refl (free_append (decimal i) (codes " " ++ decimal j) (decimal_free i) (free_append (codes " ") (decimal j) refl (decimal_free j)))
fact_free (fact.Le i j) = free_append (codes "LE ") (decimal i ++ (codes " " ++ decimal j)) refl (free_append (decimal i) (codes " " ++ decimal j) (decimal_free i) (free_append (codes " ") (decimal j) refl (decimal_free j)))

lack_free : (l : Lack) → Free (lack_text l)
lack_free lack.Number = refl
lack_free lack.Form = refl
lack_free (lack.Fact f) = fact_free f

at_free : (word : List ℕ) (n : ℕ) (rest : List ℕ) → Free word → Free rest → Free (word ++ (decimal n ++ rest))
at_free word n rest h k = free_append word (decimal n ++ rest) h (free_append (decimal n) rest (decimal_free n) k)

fault_free : (f : CertFault) → Free (fault_text f)
fault_free (fault.BadStep s l) = at_free (codes "step ") s (codes " lacks " ++ lack_text l) refl (free_append (codes " lacks ") (lack_text l) refl (lack_free l))
fault_free (fault.NotAnAtom k) = at_free (codes "node ") k (codes " NotAnAtom") refl refl
fault_free (fault.TooDeep k) = at_free (codes "node ") k (codes " TooDeep") refl refl
fault_free (fault.NoClash k) = at_free (codes "node ") k (codes " NoClash") refl refl

judgement_free : (j : Judgement) → Free (judgement_text j)
judgement_free judgement.Checked = refl
judgement_free (judgement.Refused f) = free_append (codes "REFUSED ") (fault_text f) refl (fault_free f)
judgement_free judgement.Absent = refl

-- ---- lines

line_quiet : (n : ℕ) (o : Formula) (j : Judgement) → IsNamed o → InQuietLines (judgement_line n o j)
line_quiet n o j h =
    let all = append_assoc (heading n o.name o.kind ++ codes " ") (judgement_text j) (codes "\n") ∙ append_assoc (heading n o.name o.kind) (codes " ") (judgement_text j ++ codes "\n") in
    subst InQuietLines (sym all)
    (heading_quiet n o.name o.kind (codes " " ++ (judgement_text j ++ codes "\n")) h.name
    (ends_behind (codes " ") (judgement_text j ++ codes "\n") refl (ends_with (judgement_text j) (judgement_free j))))

lines_quiet : (n : ℕ) (os : List Formula) (js : List Judgement) → All IsNamed os → InQuietLines (judgement_lines n os js)
lines_quiet n [] js h = quiet_nothing
lines_quiet n (o ∷ os) [] h = quiet_nothing
lines_quiet n (o ∷ os) (j ∷ js) h =
    quiet_append (judgement_line n o j) (judgement_lines (n + 1) os js) (line_quiet n o j (All-head IsNamed o os h)) (lines_quiet (n + 1) os js (All-tail IsNamed o os h))

extra_quiet : (x : ℕ) → InQuietLines (extra_line x)
extra_quiet zero = quiet_nothing
extra_quiet (suc x) =
    quiet_line (extra_line (suc x)) (ends_behind (codes "EXTRA " ++ decimal (suc x)) (codes "\n") (free_append (codes "EXTRA ") (decimal (suc x)) refl (decimal_free (suc x))) (ends_with [] refl)) refl

refused_line : (m k : ℕ) → InQuietLines (codes "REFUSED " ++ decimal k ++ codes " of " ++ decimal m ++ codes " formulas\n")
refused_line m k =
    quiet_line (codes "REFUSED " ++ decimal k ++ codes " of " ++ decimal m ++ codes " formulas\n")
    (ends_behind (codes "REFUSED " ++ decimal k ++ codes " of " ++ decimal m) (codes " formulas\n")
    (free_append (codes "REFUSED " ++ decimal k ++ codes " of ") (decimal m)
    (free_append (codes "REFUSED " ++ decimal k) (codes " of ") (free_append (codes "REFUSED ") (decimal k) refl (decimal_free k)) refl) (decimal_free m))
    (ends_with (codes " formulas") refl)) refl

module _ (p : Parts) (names : HasPlainNames p) where
  -- the lines before the last
  front_quiet : (os : List Formula) (ts : List Tree) → os ≡ formulas p → InQuietLines (interface_line p ++ judgement_lines 1 os (judgements p os ts) ++ extra_line (extra_count os ts))
  front_quiet os ts is =
      quiet_append (interface_line p ++ judgement_lines 1 os (judgements p os ts)) (extra_line (extra_count os ts))
      (quiet_append (interface_line p) (judgement_lines 1 os (judgements p os ts)) (interface_quiet p names)
      (lines_quiet 1 os (judgements p os ts) (subst (All IsNamed) (sym is) (formulas_named p names)))) (extra_quiet (extra_count os ts))

  module _ (front : List ℕ) (quiet : InQuietLines front) (m k : ℕ) where
    verdict_by_line : (v : Verdict) → HoldsAccepted (front ++ closing_line m k v) → v ≡ verdict.Ok
    verdict_by_line verdict.Ok h = refl
    verdict_by_line verdict.Refused h = absurd (none_accepted _ (quiet_append front (closing_line m k verdict.Refused) quiet (refused_line m k)) h)
    verdict_by_line verdict.Conflict h = absurd (none_accepted _ (quiet_append front (closing_line m k verdict.Conflict) quiet (refused_line m k)) h)

  text_verdict : (os : List Formula) (ts : List Tree) → os ≡ formulas p → HoldsAccepted (verify_text p os ts) → file_verdict p os ts ≡ verdict.Ok
  text_verdict os ts is h = verdict_by_line _ (front_quiet os ts is) (length os) (refused_count (judgements p os ts)) (file_verdict p os ts) h

  answered_verdict : (ts : List Tree) (bytes : List ℕ) (v : Verdict) (first : Result (List Formula) Refusal) → FormulasListed None p first
      → Onward (λ os out. out ≡ Ok (verify_answer p os ts)) first (Ok (printed bytes v)) → HoldsAccepted bytes → v ≡ verdict.Ok
  answered_verdict ts bytes v (Err r) h e line = absurd cc
  answered_verdict ts bytes v (Ok os) h e line =
      let same : printed bytes v ≡ verify_answer p os ts = cc in
      let text : bytes ≡ verify_text p os ts = cc in
      ap verdict_of same ∙ text_verdict os ts (listing_is None (formulas p) os (first_fault p 1 (formulas p)) h) (subst HoldsAccepted text line)

-- ---- the texts

module _ (files : Files) (interface certs bytes : List ℕ) (v : Verdict) where
  by_spec : (x : System) (ts : List Tree) → SystemRead interface files (Ok x) → (second : Result Elaborated Refusal) → SystemJudged interface x second
      → Onward (λ e. VerifyAnswered e.spec ts) second (Ok (printed bytes v)) → HoldsAccepted bytes → v ≡ verdict.Ok
  by_spec x ts read (Err r) j h line = absurd cc
  by_spec x ts read (Ok e) j h line = answered_verdict e.spec (system_names files interface x e read j) ts bytes v h.0 h.1 h.2 line

  -- the system of the texts was read
  certs_by : (t : Texts) (x : System) → SystemRead interface files (Ok x) → (second : Result File Refusal) → Onward (λ f out. out ≡ Ok (record { system = x; certificates = f })) second (Ok t) → SystemRead interface files (Ok t.system)
  certs_by t x read (Err r) e = absurd cc
  certs_by t x read (Ok f) e =
      let same : t ≡ record { system = x; certificates = f } = cc in
      subst (λ (y : Texts). SystemRead interface files (Ok y.system)) (sym same) read

  texts_by : (t : Texts) (first : Result System Refusal) → SystemRead interface files first
      → Onward (λ x. λ out. (second : Result File Refusal) × FileRead certificates certs files second × Onward (λ f end. end ≡ Ok (record { system = x; certificates = f })) second out) first (Ok t) → SystemRead interface files (Ok t.system)
  texts_by t (Err r) read e = absurd cc
  texts_by t (Ok x) read e = certs_by t x read e.0 e.2

  by_texts : (first : Result Texts Refusal) → TextsRead interface certs files first → Onward (VerifyWork interface) first (Ok (printed bytes v)) → HoldsAccepted bytes → v ≡ verdict.Ok
  by_texts (Err r) read h line = absurd cc
  by_texts (Ok t) read h line = by_spec t.system t.certificates.trees (texts_by t read.0 read.1 read.2) h.0 h.1 h.2 line

  verdict_ok : VerifyDone interface certs files (Ok (printed bytes v)) → HoldsAccepted bytes → v ≡ verdict.Ok
  unfolding VerifyDone
  verdict_ok h line = by_texts h.0 h.1 h.2 line

pub verified_lines : VerifiedAreSecure → VerifiedLinesLaw
verified_lines secure files interface certs bytes v h line =
    secure files interface certs bytes (subst (λ (w : Verdict). VerifyDone interface certs files (Ok (printed bytes w))) (verdict_ok files interface certs bytes v h line) h)
