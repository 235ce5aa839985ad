-- What is printed of an interface, of a mapping and of all, as answers.
use Rattle.std.proofs.Common.{◌≡◌, ◌∙◌, ◌&&◌, ℕ, zero, suc, ◌+◌, ◌<◌, ◌≤◌, ◌++◌, Bool, List, [], ◌∷◌, Some, Result, Ok, Err, ap, arith, drop, get_or, length, map, refl, subst, sym}
use Rattle.std.proofs.lemmas.Grind.{common_steps}
use Rattle.std.proofs.lemmas.List.{drop_more, length-map}
use Rattle.std.proofs.lemmas.List.Concat.{flat_map-append}
use Rattle.std.proofs.lemmas.List.Folds.{list_all-append, list_all-map}
use Rattle.std.specs.List.{list_all}
use Rattle.sp_core.specs.declared.mapping.Mapping.{Mapping}
use Rattle.sp_core.specs.Parts.{Parts}
use Rattle.sp_sequent.specs.declared.formula.Formula.{Formula as Made}
use Rattle.sp_formulas.specs.Formulas.{formula_as}
use Rattle.sp_report.specs.Headings.{interface_line}
use Rattle.sp_frame.specs.declared.refusal.Printed.{Printed}
use Rattle.sp_frame.specs.declared.refusal.Refusal.{Refusal}
use Rattle.sp_frame.specs.declared.refusal.Stop.{Stop}
use Rattle.sp_frame.specs.declared.refusal.Stop.TheVariants as stop
use Rattle.sp_frame.specs.declared.refusal.Verdict.{Verdict}
use Rattle.sp_frame.specs.declared.refusal.Verdict.TheVariants as verdict
use Rattle.sp_frame.specs.Endings.{Printing, Shows, certified, printed, verdict_of}
use Rattle.sp_frame.specs.Steps.{Does, Each, Gives, Step, Then}
use Rattle.sp_frame.specs.Uncertified.{Lines, spells}
use Rattle.sp_frame.proofs.Connective.{prints_after}
use Rattle.sp_formula_list.specs.Listed.{FormulasListed}
use Rattle.sp_deciding.specs.Decided.{AllDecided, open_count}
use Rattle.sp_deciding.specs.Verdicts.{all_lines, last_line, verdict_by}
use Rattle.sp_deciding.specs.declared.deciding.Decision.{Decision}
use Rattle.sp_check_command.specs.Check.{CheckAnswered, check_answer}
use Rattle.sp_hierarchy.specs.declared.judging.Hierarchy.{Hierarchy}
use Rattle.sp_hierarchy_command.specs.Hierarchy.{HierarchyAnswered, MapFormulasListed, MappedAnswered, MappingAnswered, MemberAnswered, OwnedAnswered, all_accept, is_accepting, mapping_line, owned_answer, text_of, texts_of, whole_answer, whole_line, whole_verdict}
use Rattle.sp_hierarchy_command.specs.Reports.{as_lines, lines_of}

-- ---- formulas with an owner

pub refuses : (k : ℕ) → 0 < k → verdict.Refused ≡ verdict_by k
refuses zero h = absurd (omega (arith, h))
refuses (suc k) h = refl

-- two texts behind the first one
pub lines_are : (first second third a b : List ℕ) → second ≡ first ++ a → third ≡ second ++ b → third ≡ first ++ a ++ b
lines_are first second third a b p q = q ∙ ap (λ t. t ++ b) p

-- the lines with the number of formulas and the number of those that are open
pub told : (line : List ℕ) (p : Parts) (fs : List Made) (ds : List Decision) (k : ℕ) (text : List ℕ) (v : Verdict) → k ≡ open_count ds
    → text ≡ line ++ all_lines p 1 (map formula_as fs) ds ++ last_line (length fs) k → v ≡ verdict_by k
    → (a : Lines) × Gives {E = Refusal} (owned_answer line p (map formula_as fs) ds) (Ok a) × Shows spells a text × (v ≡ verdict_of a)
told line p fs ds k text v is bytes same =
    let os = map formula_as fs in (
      owned_answer line p os ds,
      refl,
      bytes ∙ ap (λ n. line ++ all_lines p 1 os ds ++ last_line n k) (sym (length-map fs formula_as)) ∙ ap (λ m. line ++ all_lines p 1 os ds ++ last_line (length os) m) is,
      same ∙ ap verdict_by is,
    )

-- the formulas of an interface are listed and told behind its line, as by `check`
pub member_told : (name : List ℕ) (p : Parts) (fs gs : List Made) (line : List ℕ) (r : Result Printed Stop) → gs ≡ fs → line ≡ interface_line p → FormulasListed (Some name) p (Ok (map formula_as fs))
    → Does (Printing spells (OwnedAnswered name line p (map formula_as gs))) r → Does (Printing spells (CheckAnswered (Some name) p)) r
member_told name p fs gs line r given is listed told =
    let lines = subst (λ l. Does (Printing spells (OwnedAnswered name l p (map formula_as fs))) r) is (subst (λ xs. Does (Printing spells (OwnedAnswered name line p (map formula_as xs))) r) given told) in
    prints_after spells (FormulasListed (Some name) p) (λ os. Then (AllDecided (Some name) p 1 os) (λ ds. Gives (check_answer p os ds))) (map formula_as fs) r listed lines

-- those of a mapping
pub mapping_told : (p : Parts) (m : Mapping) (fs gs : List Made) (line : List ℕ) (r : Result Printed Stop) → gs ≡ fs → line ≡ mapping_line m → MapFormulasListed p m (Ok (map formula_as fs))
    → Does (Printing spells (OwnedAnswered m.name line p (map formula_as gs))) r → Does (Printing spells (MappingAnswered p m)) r
mapping_told p m fs gs line r given is listed told =
    let lines = subst (λ l. Does (Printing spells (OwnedAnswered m.name l p (map formula_as fs))) r) is (subst (λ xs. Does (Printing spells (OwnedAnswered m.name line p (map formula_as xs))) r) given told) in
    prints_after spells (MapFormulasListed p m) (OwnedAnswered m.name (mapping_line m) p) (map formula_as fs) r listed lines

-- ---- reports

printed_step : (step : Step Lines) (report : Printed) → Printing spells step (Ok report) → step (Ok (lines_of report))
printed_step step report (printed bytes v, done, shown, same) =
    let is : printed bytes v ≡ lines_of report = ap (λ t. printed t v) (sym shown) ∙ ap (printed report.bytes.items) (sym same) in
    subst (λ a. step (Ok a)) is done
printed_step step report (certified c, done, shown, same) = absurd c

module _ {X : Type 0} (step : X → Step Lines) where
  abbrev Reported : List X → Step (List Printed)
  Reported xs = Each (λ x. Printing spells (step x)) xs

  reports_done : (xs : List X) (reports : List Printed) → Reported xs (Ok reports) → Each step xs (Ok (map lines_of reports))
  reports_done [] reports h = let none : reports ≡ [] = cc in ap (λ rs. Ok (map lines_of rs)) none
  reports_done (x ∷ xs) reports (Err r, first, rest) = absurd cc
  reports_done (x ∷ xs) reports (Ok report, first, (Err r, more, rest)) = absurd cc
  reports_done (x ∷ xs) reports (Ok report, first, (Ok others, more, rest)) =
      let is : reports ≡ report ∷ others = cc in
      (Ok (lines_of report), printed_step (step x) report first, (Ok (map lines_of others), reports_done xs others more, ap (λ rs. Ok (map lines_of rs)) is))

  reports_refused : (xs : List X) (r : Refusal) → Reported xs (Err r) → Each step xs (Err r)
  reports_refused [] r h = absurd cc
  reports_refused (x ∷ xs) r (Err s, first, rest) = let same : r ≡ s = cc in (Err s, first, ap Err same)
  reports_refused (x ∷ xs) r (Ok report, first, (Err s, more, rest)) =
      let same : r ≡ s = cc in
      (Ok (lines_of report), printed_step (step x) report first, (Err s, reports_refused xs s more, ap Err same))
  reports_refused (x ∷ xs) r (Ok report, first, (Ok others, more, rest)) = absurd cc

  -- reports that are made one after the other are the answers
  pub reported : (xs : List X) (r : Result (List Printed) Stop) → Does (Reported xs) r → Does (Each step xs) (as_lines r)
  reported xs (Ok reports) h = reports_done xs reports h
  reported xs (Err (stop.Refused r)) h = reports_refused xs r h
  reported xs (Err stop.Memory) h = tt

-- ---- the whole

-- all are answered, and then it is told
pub all_told : (h : Hierarchy) (as' bs cs ds : List Printed) (report : Printed) → cs ≡ as' → ds ≡ bs → Each MemberAnswered h.members (Ok (map lines_of as')) → Each (MappedAnswered h.members) h.mappings (Ok (map lines_of bs))
    → lines_of report ≡ whole_answer (map lines_of cs ++ map lines_of ds) → Does (Printing spells (HierarchyAnswered h)) (Ok report)
all_told h as' bs cs ds report given lent members mappings is =
    let same : lines_of report ≡ whole_answer (map lines_of as' ++ map lines_of bs) = is ∙ ap (λ xs. whole_answer (map lines_of xs ++ map lines_of ds)) given ∙ ap (λ xs. whole_answer (map lines_of as' ++ map lines_of xs)) lent in
    (lines_of report, (Ok (map lines_of as'), members, (Ok (map lines_of bs), mappings, ap Ok same)), refl, refl)

-- a mapping stops the work
pub mappings_stop : (h : Hierarchy) (as' : List Printed) (s : Stop) → Each MemberAnswered h.members (Ok (map lines_of as')) → Does (Each (MappedAnswered h.members) h.mappings) (Err s) → Does (Printing spells (HierarchyAnswered h)) (Err s)
mappings_stop h as' (stop.Refused r) members mappings = (Ok (map lines_of as'), members, (Err r, mappings, refl))
mappings_stop h as' stop.Memory members mappings = tt

-- ---- the text of the whole

-- the texts from this report on
pub texts_from : (reports : List Printed) (k : ℕ) (report : Printed) → k < length reports → report ≡ get_or reports k report
    → texts_of (map lines_of (drop k reports)) ≡ report.bytes.items ++ texts_of (map lines_of (drop (k + 1) reports))
texts_from reports k report h e = ap (λ rs. texts_of (map lines_of rs)) (drop_more reports k report h) ∙ ap (λ (r : Printed). r.bytes.items ++ texts_of (map lines_of (drop (k + 1) reports))) (sym e)

-- behind the last one there is none
pub texts_end : (reports : List Printed) (k : ℕ) → length reports ≤ k → texts_of (map lines_of (drop k reports)) ≡ []
texts_end reports k h = ap (λ rs. texts_of (map lines_of rs)) (all_dropped reports k h)
  where
    all_dropped : (xs : List Printed) (n : ℕ) → length xs ≤ n → drop n xs ≡ []
    all_dropped xs n l = grind (arith, common_steps)

-- the texts of both lists and the last line
pub whole_told : (as' bs : List Lines) (accepted : Bool) (report : Printed) (none first second last : List ℕ) → accepted ≡ all_accept (as' ++ bs) → none ≡ [] → first ≡ none ++ texts_of as' → second ≡ first ++ texts_of bs
    → last ≡ second ++ whole_line accepted → report.bytes.items ≡ last → report.verdict ≡ whole_verdict accepted → lines_of report ≡ whole_answer (as' ++ bs)
whole_told as' bs accepted report none first second last is a b c d e v =
    let texts : second ≡ texts_of (as' ++ bs) = c ∙ ap (λ t. t ++ texts_of bs) (b ∙ ap (λ t. t ++ texts_of as') a) ∙ sym (flat_map-append text_of as' bs) in
    let bytes : report.bytes.items ≡ texts_of (as' ++ bs) ++ whole_line (all_accept (as' ++ bs)) = e ∙ d ∙ ap (λ t. t ++ whole_line accepted) texts ∙ ap (λ w. texts_of (as' ++ bs) ++ whole_line w) is in
    ap (λ t. printed t report.verdict) bytes ∙ ap (printed (texts_of (as' ++ bs) ++ whole_line (all_accept (as' ++ bs)))) (v ∙ ap whole_verdict is)

-- ---- whether all accept

-- whether all of two lists accept, by the verdicts of each
pub both_are : (xs ys : List Printed) → all_accept (map lines_of xs ++ map lines_of ys) ≡ (list_all (λ r. is_accepting r.verdict) xs && list_all (λ r. is_accepting r.verdict) ys)
both_are xs ys =
    let p : Lines → Bool = λ a. is_accepting (verdict_of a) in
    rw (list_all-append p (map lines_of xs) (map lines_of ys), list_all-map p lines_of xs, list_all-map p lines_of ys) refl
