-- Where the bytes that were written hold a line that begins with ACCEPTED, what the words ask about is secure.
use Rattle.std.proofs.Common.{◌≡◌, ◌∙◌, ℕ, List, [], ◌++◌, Option, Some, None, Result, Ok, Err, IsTrue, ap, codes, drop, refl, sym, subst, take}
use Rattle.std.specs.Prelude.{IfSome}
use Rattle.std.proofs.lemmas.List.{append-nil, append_cancel_left, take-append-drop}
use Rattle.sp_outside.specs.Files.{Files}
use Rattle.sp_outside.specs.Written.{Appends}
use Rattle.sp_words.specs.Words.{Command, check, command_of, compare, formulas, hierarchy, migrate, prove, run, sample, verify}
use Rattle.sp_frame.specs.declared.refusal.Refusal.{Refusal}
use Rattle.sp_frame.specs.declared.refusal.Verdict.{Verdict}
use Rattle.sp_frame.specs.declared.status.Status.{Status}
use Rattle.sp_frame.specs.declared.status.Status.TheVariants as status
use Rattle.sp_frame.specs.Endings.{Answer, Ending, Prints, answered, certified, ending_of, no_command, printed, refused, refused_line}
use Rattle.sp_frame.specs.Status.{is_reported}
use Rattle.sp_frame.specs.Steps.{Step}
use Rattle.sp_frame.specs.Uncertified.{Lines, Widened}
use Rattle.sp_check_command.specs.Check.{CheckDone}
use Rattle.sp_check_command.specs.Secure.{IsSecureInterface}
use Rattle.sp_headline.specs.Laws.{CheckedLinesLaw, VerifiedLinesLaw}
use Rattle.sp_headline.specs.Lines.{HoldsAccepted}
use Rattle.sp_headline.specs.Refused.{CheckRefusesLaw, HasNamesInLine, RefusedLinesLaw, SampleRefusesLaw, VerifyRefusesLaw}
use Rattle.sp_headline.specs.Sampled.{SampledLinesLaw}
use Rattle.sp_headline.proofs.Prefixes.{longer_holds}
use Rattle.sp_headline.proofs.Texts.{none_accepted, quiet_nothing}
use Rattle.sp_hierarchy_command.specs.Hierarchy.{HierarchyDone}
use Rattle.sp_hierarchy_headline.specs.Blocks.{AcceptedUnder, interface_heading, mapping_heading}
use Rattle.sp_hierarchy_headline.specs.Hidden.{IsRowOf}
use Rattle.sp_hierarchy_headline.specs.Laws.{HierarchyLinesLaw, HierarchyRefusesLaw, MappingLinesLaw, MappingRowsLaw}
use Rattle.sp_hierarchy_headline.proofs.Lines.{under_holds}
use Rattle.sp_prove_command.specs.Laws.{ProvedAreChecked, ProvedAreSecure}
use Rattle.sp_prove_command.specs.Prove.{ProveDone}
use Rattle.sp_driver.specs.Certified.{Certified, spells}
use Rattle.sp_driver.specs.Report.{CommandDone, Ends, EndsAs}
use Rattle.sp_driver.specs.Run.{CutShort, Reported, ShowsSecure}
use Rattle.sp_driver.specs.Secure.{AskedIsSecure, HierarchyIsShown, ShownIsSecure}
use Rattle.sp_driver.specs.Shown.{IsAppended}
use Rattle.sp_driver.proofs.Accepted.{done_of, lines_of}
use Rattle.sp_driver.proofs.InLine.{AreInLine, HasWordsInLine, words_in_line}

-- what lines tell, and what refusals tell, by the laws of other crates
pub record LineLaws : Type 0 where
  pub checks : CheckedLinesLaw
  pub verifies : VerifiedLinesLaw
  pub samples : SampledLinesLaw
  pub proves : ProvedAreSecure
  pub beside : ProvedAreChecked
  pub refused : RefusedLinesLaw
  pub check_refuses : CheckRefusesLaw
  pub verify_refuses : VerifyRefusesLaw
  pub sample_refuses : SampleRefusesLaw
  pub hierarchy_refuses : HierarchyRefusesLaw
  pub interfaces_under : HierarchyLinesLaw
  pub mappings_under : MappingLinesLaw
  pub rows_under : MappingRowsLaw

-- ---- the refusal of a command

widened_refusal : (step : Step Lines) (r : Refusal) → Widened {C = Certified} step (Err r) → step (Err r)
widened_refusal step r (Ok (printed bytes v), h, e) = absurd cc
widened_refusal step r (Ok (certified c), h, e) = absurd c
widened_refusal step r (Err s, h, e) =
    let same : s ≡ r = cc in
    subst (λ q. step (Err q)) same h

-- what a command was refused, from its ending
refused_of : (command : Command) (files : Files) (r : Refusal) → EndsAs (Some command) files (refused r) → CommandDone command files (Err r)
refused_of command files r h = by h.0 h.1 h.2
  where
    by : (out : Result (Answer Certified) Refusal) → CommandDone command files out → refused r ≡ ending_of out → CommandDone command files (Err r)
    by (Ok a) d e = absurd cc
    by (Err s) d e = let same : s ≡ r = cc in subst (λ q. CommandDone command files (Err q)) same d

module _ (laws : LineLaws) (files : Files) where
  -- a line of a part is one of the whole
  longer : (bytes rest text : List ℕ) → bytes ++ rest ≡ text → HoldsAccepted bytes → HoldsAccepted text
  longer bytes rest text is line = subst HoldsAccepted is (longer_holds (codes "ACCEPTED") bytes rest line)

  -- of bytes without such a line
  no_hierarchy : (whole bytes : List ℕ) → ¬ HoldsAccepted bytes → HierarchyIsShown whole bytes files
  no_hierarchy whole bytes none = record {
    interfaces = λ name h. absurd (none (under_holds (interface_heading name) bytes h));
    mappings = λ row of h k. absurd (none (under_holds (mapping_heading row.2.name) bytes h));
    rows = λ name h. absurd (none (under_holds (mapping_heading name) bytes h));
  }

  -- what is printed of a refusal shows nothing
  of_refusal : (command : Command) (r : Refusal) (bytes rest : List ℕ) → HasWordsInLine command → CommandDone command files (Err r) → bytes ++ rest ≡ refused_line r → ShownIsSecure (Some command) bytes files
  of_refusal (check own) r bytes rest free h is = λ line. absurd (laws.refused r (laws.check_refuses files own free r (widened_refusal _ r h)) (longer bytes rest (refused_line r) is line))
  of_refusal (prove own) r bytes rest free h is = λ line.
      let other = laws.beside files own (Err r) h in
      absurd (laws.refused r (laws.check_refuses files own free r (subst (CheckDone own files) other.2 other.1)) (longer bytes rest (refused_line r) is line))
  of_refusal (verify own certs) r bytes rest free h is = λ line.
      absurd (laws.refused r (laws.verify_refuses files own certs free.0 free.1 r (widened_refusal _ r h)) (longer bytes rest (refused_line r) is line))
  of_refusal (sample size) r bytes rest free h is = λ line. absurd (laws.refused r (laws.sample_refuses size r (widened_refusal _ r h)) (longer bytes rest (refused_line r) is line))
  of_refusal (hierarchy whole) r bytes rest free h is =
      no_hierarchy whole bytes (λ line. laws.refused r (laws.hierarchy_refuses files whole free r (widened_refusal _ r h)) (longer bytes rest (refused_line r) is line))
  of_refusal (formulas own) r bytes rest free h is = λ line. tt
  of_refusal (migrate own certs) r bytes rest free h is = λ line. tt
  of_refusal (run own instance script) r bytes rest free h is = λ line. tt
  of_refusal (compare own instance script level) r bytes rest free h is = λ line. tt

  -- ---- the report of a command

  -- certificates are printed of a secure interface alone, whatever their bytes; else the lines are those of `check`
  of_prove : (own : List ℕ) (a : Answer Certified) (text : List ℕ) → ProveDone own files (Ok a) → Prints spells (answered a) text → HoldsAccepted text → IsSecureInterface own files
  of_prove own (certified p) text h shown line = laws.proves files own p h
  of_prove own (printed lines v) text h shown line =
      let other = laws.beside files own (Ok (printed lines v)) h in
      laws.checks files own lines v (subst (CheckDone own files) other.2.1 other.1) (subst HoldsAccepted shown line)

  of_hierarchy : (whole bytes rest : List ℕ) (v : Verdict) → HierarchyDone whole files (Ok (printed (bytes ++ rest) v)) → HierarchyIsShown whole bytes files
  of_hierarchy whole bytes rest v h = record {
    interfaces = λ name under. laws.interfaces_under files whole bytes rest name v h under;
    mappings = λ row of under below. laws.mappings_under files whole bytes rest row v h of under below;
    rows = λ name under. laws.rows_under files whole bytes rest name v h under;
  }

  of_report : (command : Command) (a : Answer Certified) (bytes rest : List ℕ) → CommandDone command files (Ok a) → Prints spells (answered a) (bytes ++ rest) → ShownIsSecure (Some command) bytes files
  of_report (check own) a bytes rest h shown = λ line.
      let l = lines_of _ a h in
      laws.checks files own l.0 l.1 l.2 (longer bytes rest l.0 (subst (λ b. Prints spells (answered b) (bytes ++ rest)) l.3 shown) line)
  of_report (prove own) a bytes rest h shown = λ line. of_prove own a (bytes ++ rest) h shown (longer bytes rest (bytes ++ rest) refl line)
  of_report (verify own certs) a bytes rest h shown = λ line.
      let l = lines_of _ a h in
      laws.verifies files own certs l.0 l.1 l.2 (longer bytes rest l.0 (subst (λ b. Prints spells (answered b) (bytes ++ rest)) l.3 shown) line)
  of_report (sample size) a bytes rest h shown = λ line.
      let l = lines_of _ a h in
      laws.samples size l.0 l.1 l.2 (longer bytes rest l.0 (subst (λ b. Prints spells (answered b) (bytes ++ rest)) l.3 shown) line)
  of_report (hierarchy whole) a bytes rest h shown =
      let l = lines_of _ a h in
      let text : bytes ++ rest ≡ l.0 = subst (λ b. Prints spells (answered b) (bytes ++ rest)) l.3 shown in
      of_hierarchy whole bytes rest l.1 (subst (λ t. HierarchyDone whole files (Ok (printed t l.1))) (sym text) l.2)
  of_report (formulas own) a bytes rest h shown = λ line. tt
  of_report (migrate own certs) a bytes rest h shown = λ line. tt
  of_report (run own instance script) a bytes rest h shown = λ line. tt
  of_report (compare own instance script level) a bytes rest h shown = λ line. tt

  of_ending : (command : Option Command) (e : Ending Certified) (bytes rest : List ℕ) → AreInLine command → EndsAs command files e → Prints spells e (bytes ++ rest) → ShownIsSecure command bytes files
  of_ending None e bytes rest free h shown = λ line. tt
  of_ending (Some command) no_command bytes rest free h shown = absurd (never h.0 h.2)
    where
      never : (out : Result (Answer Certified) Refusal) → no_command ≡ ending_of out → ⊥
      never (Ok a) e = cc
      never (Err r) e = cc
  of_ending (Some command) (refused r) bytes rest free h shown = of_refusal command r bytes rest free (refused_of command files r h) shown
  of_ending (Some command) (answered a) bytes rest free h shown = of_report command a bytes rest (done_of command files a h) shown

  -- no bytes show anything
  of_nothing : (command : Option Command) → ShownIsSecure command [] files
  of_nothing None = λ line. tt
  of_nothing (Some (check own)) = λ line. absurd (none_accepted [] quiet_nothing line)
  of_nothing (Some (prove own)) = λ line. absurd (none_accepted [] quiet_nothing line)
  of_nothing (Some (verify own certs)) = λ line. absurd (none_accepted [] quiet_nothing line)
  of_nothing (Some (sample size)) = λ line. absurd (none_accepted [] quiet_nothing line)
  of_nothing (Some (hierarchy whole)) = no_hierarchy whole [] (none_accepted [] quiet_nothing)
  of_nothing (Some (formulas own)) = λ line. tt
  of_nothing (Some (migrate own certs)) = λ line. tt
  of_nothing (Some (run own instance script)) = λ line. tt
  of_nothing (Some (compare own instance script level)) = λ line. tt

-- ---- what was written

-- the bytes that were appended are no others
appended_once : (before now : Option (List ℕ)) (first second : List ℕ) → Appends before now first → IsAppended before now second → second ≡ first
appended_once None now first second h (written, e, k) = absurd cc
appended_once (Some old) now first second h (written, e, k) =
    let same : written ≡ old = cc in
    let both : Some (written ++ second) ≡ Some (old ++ first) = sym k ∙ h in
    let lists : written ++ second ≡ old ++ first = cc in
    append_cancel_left written second first (lists ∙ ap (λ t. t ++ first) (sym same))

appended_nothing : (before now : Option (List ℕ)) (bytes : List ℕ) → now ≡ before → IsAppended before now bytes → bytes ≡ []
appended_nothing before now bytes stays (written, e, k) =
    let both : Some (written ++ bytes) ≡ Some (written ++ []) = sym k ∙ (stays ∙ (e ∙ ap Some (sym (append-nil written)))) in
    let lists : written ++ bytes ≡ written ++ [] = cc in
    append_cancel_left written bytes [] lists

module _ (laws : LineLaws) (words : List (List ℕ)) (before now : Option (List ℕ)) (files : Files) where
  -- of an ending of the words, of which these bytes are a part
  part_of : (e : Ending Certified) (whole bytes rest : List ℕ) → Ends words files e → Prints spells e whole → whole ≡ bytes ++ rest → ShownIsSecure (command_of words) bytes files
  part_of e whole bytes rest ends shown is = of_ending laws files (command_of words) e bytes rest (words_in_line words) ends (subst (Prints spells e) is shown)

  report_shows : (result : Status) → Reported words result before now files → ShowsSecure words before now files
  report_shows result r bytes appended = part_of r.0 r.1 bytes [] r.2 r.3.0 (sym (appended_once before now r.1 bytes r.4 appended) ∙ sym (append-nil bytes))

  part_shows : CutShort words before now files → ShowsSecure words before now files
  part_shows r bytes appended =
      let same : bytes ≡ take r.4.0 r.1 = appended_once before now (take r.4.0 r.1) bytes r.4.2 appended in
      part_of r.0 r.1 bytes (drop r.4.0 r.1) r.2 r.3 (sym (take-append-drop r.4.0 r.1) ∙ ap (λ t. t ++ drop r.4.0 r.1) (sym same))

  nothing_shows : now ≡ before → ShowsSecure words before now files
  nothing_shows stays bytes appended = subst (λ b. ShownIsSecure (command_of words) b files) (sym (appended_nothing before now bytes stays appended)) (of_nothing laws files (command_of words))

  by_status : (result : Status) → (IsTrue (is_reported result) → Reported words result before now files) → (result ≡ status.WriteFault → CutShort words before now files) → (result ≡ status.ReadFault → now ≡ before)
      → (result ≡ status.Memory → now ≡ before) → ShowsSecure words before now files
  by_status status.Ok whole part unread memory = report_shows status.Ok (whole refl)
  by_status status.Refused whole part unread memory = report_shows status.Refused (whole refl)
  by_status status.Malformed whole part unread memory = report_shows status.Malformed (whole refl)
  by_status status.Words whole part unread memory = report_shows status.Words (whole refl)
  by_status status.Missing whole part unread memory = report_shows status.Missing (whole refl)
  by_status status.ReadFault whole part unread memory = nothing_shows (unread refl)
  by_status status.WriteFault whole part unread memory = part_shows (part refl)
  by_status status.Limit whole part unread memory = report_shows status.Limit (whole refl)
  by_status status.Conflict whole part unread memory = report_shows status.Conflict (whole refl)
  by_status status.Memory whole part unread memory = nothing_shows (memory refl)
  by_status status.NotAdmissible whole part unread memory = report_shows status.NotAdmissible (whole refl)

pub shows : LineLaws → (words : List (List ℕ)) (before now : Option (List ℕ)) (result : Status) (told : Option Files) → (IsTrue (is_reported result) → IfSome told (Reported words result before now))
    → (result ≡ status.WriteFault → IfSome told (CutShort words before now)) → (result ≡ status.ReadFault → now ≡ before) → (result ≡ status.Memory → now ≡ before) → IfSome told (ShowsSecure words before now)
shows laws words before now result None whole part unread memory = tt
shows laws words before now result (Some files) whole part unread memory = by_status laws words before now files result whole part unread memory
