-- A report of `check` with a line that begins with ACCEPTED is one that accepts.
use Rattle.std.proofs.Common.{◌≡◌, ◌∙◌, ℕ, zero, suc, List, [], ◌∷◌, ◌++◌, Option, None, Result, Ok, Err, ap, length, refl, sym, subst}
use Rattle.std.specs.List.{All}
use Rattle.sp_outside.specs.Files.{Files}
use Rattle.sp_core.specs.Parts.{Parts}
use Rattle.sp_formulas.specs.Formulas.{Formula, formulas}
use Rattle.sp_formulas.specs.Limits.{first_fault}
use Rattle.sp_frame.specs.declared.refusal.Refusal.{Refusal}
use Rattle.sp_frame.specs.declared.refusal.Verdict.{Verdict}
use Rattle.sp_frame.specs.declared.refusal.Verdict.TheVariants as verdict
use Rattle.sp_frame.specs.Endings.{printed, verdict_of}
use Rattle.sp_frame.specs.Steps.{Onward}
use Rattle.sp_formula_list.specs.Listed.{FormulasListed}
use Rattle.sp_formula_list.proofs.Given.{listing_is}
use Rattle.sp_deciding.specs.Decided.{AllDecided, open_count}
use Rattle.sp_deciding.specs.Verdicts.{all_lines, last_line, verdict_by}
use Rattle.sp_deciding.specs.declared.deciding.Decision.{Decision}
use Rattle.sp_report.specs.Headings.{interface_line}
use Rattle.sp_system.specs.System.{SystemJudged, SystemRead}
use Rattle.sp_system.specs.declared.interface.Elaborated.{Elaborated}
use Rattle.sp_system.specs.declared.system.System.{System}
use Rattle.sp_check_command.specs.Check.{CheckAnswered, CheckDone, CheckWork, check_answer, check_text}
use Rattle.sp_check_command.specs.Secure.{AcceptedAreSecure}
use Rattle.sp_plain_names.specs.Names.{HasPlainNames}
use Rattle.sp_plain_names.proofs.Systems.{system_names}
use Rattle.sp_headline.specs.Laws.{CheckedLinesLaw}
use Rattle.sp_headline.specs.Lines.{HoldsAccepted}
use Rattle.sp_headline.proofs.Named.{IsNamed, formulas_named}
use Rattle.sp_headline.proofs.Reports.{all_quiet, interface_quiet, refused_quiet}
use Rattle.sp_headline.proofs.Texts.{InQuietLines, none_accepted, quiet_append}

module _ (p : Parts) (names : HasPlainNames p) where
  -- where some formula is open, no line begins so
  refused_text : (os : List Formula) (ds : List Decision) (k : ℕ) → os ≡ formulas p → InQuietLines (interface_line p ++ all_lines p 1 os ds ++ last_line (length os) (suc k))
  refused_text os ds k is =
      quiet_append (interface_line p ++ all_lines p 1 os ds) (last_line (length os) (suc k))
      (quiet_append (interface_line p) (all_lines p 1 os ds) (interface_quiet p names) (all_quiet p names 1 os ds (subst (All IsNamed) (sym is) (formulas_named p names))))
      (refused_quiet (length os) k)

  none_open : (os : List Formula) (ds : List Decision) → os ≡ formulas p → (n : ℕ) → n ≡ open_count ds → HoldsAccepted (check_text p os ds) → open_count ds ≡ 0
  none_open os ds is zero e h = sym e
  none_open os ds is (suc k) e h =
      absurd (none_accepted (check_text p os ds) (subst (λ n. InQuietLines (interface_line p ++ all_lines p 1 os ds ++ last_line (length os) n)) e (refused_text os ds k is)) h)

  pub check_verdict : (os : List Formula) (ds : List Decision) → os ≡ formulas p → HoldsAccepted (check_text p os ds) → verdict_by (open_count ds) ≡ verdict.Ok
  check_verdict os ds is h = ap verdict_by (none_open os ds is (open_count ds) refl h)

  -- ---- the answer

  by_decisions : (owner : Option (List ℕ)) (bytes : List ℕ) (v : Verdict) (os : List Formula) → os ≡ formulas p → (second : Result (List Decision) Refusal) → AllDecided owner p 1 os second
      → Onward (λ ds out. out ≡ Ok (check_answer p os ds)) second (Ok (printed bytes v)) → HoldsAccepted bytes → v ≡ verdict.Ok
  by_decisions owner bytes v os is (Err r) h e line = absurd cc
  by_decisions owner bytes v os is (Ok ds) h e line =
      let same : printed bytes v ≡ check_answer p os ds = cc in
      let text : bytes ≡ check_text p os ds = cc in
      ap verdict_of same ∙ check_verdict os ds is (subst HoldsAccepted text line)

  pub answered_verdict : (owner : Option (List ℕ)) (bytes : List ℕ) (v : Verdict) (first : Result (List Formula) Refusal) → FormulasListed owner p first
      → Onward (λ os. λ out. (second : Result (List Decision) Refusal) × AllDecided owner p 1 os second × Onward (λ ds out. out ≡ Ok (check_answer p os ds)) second out) first (Ok (printed bytes v)) → HoldsAccepted bytes → v ≡ verdict.Ok
  answered_verdict owner bytes v (Err r) h e line = absurd cc
  answered_verdict owner bytes v (Ok os) h e line = by_decisions owner bytes v os (listing_is owner (formulas p) os (first_fault p 1 (formulas p)) h) e.0 e.1 e.2 line

-- ---- the texts

module _ (files : Files) (interface bytes : List ℕ) (v : Verdict) where
  by_spec : (x : System) → SystemRead interface files (Ok x) → (second : Result Elaborated Refusal) → SystemJudged interface x second
      → Onward (λ e. CheckAnswered None e.spec) second (Ok (printed bytes v)) → HoldsAccepted bytes → v ≡ verdict.Ok
  by_spec x read (Err r) j h line = absurd cc
  by_spec x read (Ok e) j h line = answered_verdict e.spec (system_names files interface x e read j) None bytes v h.0 h.1 h.2 line

  by_system : (first : Result System Refusal) → SystemRead interface files first → Onward (CheckWork interface) first (Ok (printed bytes v)) → HoldsAccepted bytes → v ≡ verdict.Ok
  by_system (Err r) read h line = absurd cc
  by_system (Ok x) read h line = by_spec x read h.0 h.1 h.2 line

  verdict_ok : CheckDone interface files (Ok (printed bytes v)) → HoldsAccepted bytes → v ≡ verdict.Ok
  unfolding CheckDone
  verdict_ok h line = by_system h.0 h.1 h.2 line

pub checked_lines : AcceptedAreSecure → CheckedLinesLaw
checked_lines secure files interface bytes v h line =
    secure files interface bytes (subst (λ (w : Verdict). CheckDone interface files (Ok (printed bytes w))) (verdict_ok files interface bytes v h line) h)
