-- What is printed of decisions, as the answer.
use Rattle.std.proofs.Common.{◌≡◌, ◌∙◌, ℕ, zero, suc, ◌<◌, ◌++◌, List, [], Option, Result, Ok, Err, ap, arith, length, map, refl, subst, sym}
use Rattle.std.specs.List.{All}
use Rattle.std.proofs.lemmas.List.{length-map}
use Rattle.sp_core.specs.Parts.{Parts}
use Rattle.sp_sequent.specs.declared.formula.Formula.{Formula as Made}
use Rattle.sp_formulas.specs.Formulas.{formula_as}
use Rattle.sp_frame.specs.declared.refusal.Printed.{Printed}
use Rattle.sp_frame.specs.declared.refusal.Refusal.{Refusal}
use Rattle.sp_frame.specs.declared.refusal.Stop.{Stop}
use Rattle.sp_frame.specs.declared.refusal.Verdict.{Verdict}
use Rattle.sp_frame.specs.declared.refusal.Verdict.TheVariants as verdict
use Rattle.sp_frame.specs.Endings.{Printing, Shows, verdict_of}
use Rattle.sp_frame.specs.Steps.{Does, Gives, Then}
use Rattle.sp_frame.proofs.Connective.{prints_after, prints_refused}
use Rattle.sp_frame.specs.Uncertified.{Lines, spells}
use Rattle.sp_report.specs.Headings.{interface_line}
use Rattle.sp_formula_list.specs.Listed.{FormulasListed}
use Rattle.sp_deciding.specs.Decided.{AllDecided, open_count}
use Rattle.sp_deciding.specs.Laws.{IsClosed}
use Rattle.sp_deciding.specs.Verdicts.{all_lines, last_line, verdict_by}
use Rattle.sp_deciding.specs.declared.deciding.Decision.{Decision}
use Rattle.sp_deciding.proofs.Closed.{all_closed}
use Rattle.sp_check_command.specs.Check.{CheckAnswered, check_answer}

pub refuses : (k : ℕ) → 0 < k → verdict.Refused ≡ verdict_by k
refuses zero h = absurd (omega (arith, h))
refuses (suc k) h = refl

pub accepts : (k : ℕ) → k ≡ 0 → verdict.Ok ≡ verdict_by k
accepts k e = sym (ap verdict_by e)

-- three texts, one behind the other
pub lines_are : (none first second third a b c : List ℕ) → none ≡ [] → first ≡ none ++ a → second ≡ first ++ b → third ≡ second ++ c → third ≡ a ++ b ++ c
lines_are none first second third a b c p q r s = s ∙ ap (λ t. t ++ c) (r ∙ ap (λ t. t ++ b) (q ∙ ap (λ t. t ++ a) p))

-- the lines with the number of formulas and the number of those that are open
pub told : (p : Parts) (fs : List Made) (ds : List Decision) (k : ℕ) (text : List ℕ) (v : Verdict) → k ≡ open_count ds
    → text ≡ interface_line p ++ all_lines p 1 (map formula_as fs) ds ++ last_line (length fs) k → v ≡ verdict_by k
    → (a : Lines) × Gives {E = Refusal} (check_answer p (map formula_as fs) ds) (Ok a) × Shows spells a text × (v ≡ verdict_of a)
told p fs ds k text v is bytes same =
    let os = map formula_as fs in (
      check_answer p os ds,
      refl,
      bytes ∙ ap (λ n. interface_line p ++ all_lines p 1 os ds ++ last_line n k) (sym (length-map fs formula_as)) ∙ ap (λ m. interface_line p ++ all_lines p 1 os ds ++ last_line (length os) m) is,
      same ∙ ap verdict_by is,
    )

-- the formulas are listed and decided, and then it is told
pub answered : (owner : Option (List ℕ)) (p : Parts) (fs gs hs : List Made) (ds es : List Decision) (r : Result Printed Stop) → gs ≡ fs → hs ≡ fs → es ≡ ds
    → FormulasListed owner p (Ok (map formula_as fs)) → AllDecided owner p 1 (map formula_as gs) (Ok ds) → Does (Printing spells (Gives (check_answer p (map formula_as hs) es))) r
    → Does (Printing spells (CheckAnswered owner p)) r
answered owner p fs gs hs ds es r given lent shown listed decided told =
    let all = subst (λ xs. AllDecided owner p 1 (map formula_as xs) (Ok ds)) given decided in
    let lines = subst (λ xs. Does (Printing spells (Gives (check_answer p (map formula_as xs) ds))) r) lent (subst (λ xs. Does (Printing spells (Gives (check_answer p (map formula_as hs) xs))) r) shown told) in
    prints_after spells (FormulasListed owner p) (λ os. Then (AllDecided owner p 1 os) (λ ds. Gives (check_answer p os ds))) (map formula_as fs) r listed
    (prints_after spells (AllDecided owner p 1 (map formula_as fs)) (λ ds. Gives (check_answer p (map formula_as fs) ds)) ds r all lines)

-- where none is open, no formula has an open branch
pub closed : (owner : Option (List ℕ)) (p : Parts) (fs gs hs : List Made) (ds es : List Decision) → gs ≡ fs → hs ≡ fs → es ≡ ds → AllDecided owner p 1 (map formula_as gs) (Ok ds)
    → open_count es ≡ 0 → All (IsClosed p) (map formula_as hs)
closed owner p fs gs hs ds es given lent shown all none =
    subst (λ xs. All (IsClosed p) (map formula_as xs)) (given ∙ sym lent) (all_closed owner p 1 (map formula_as gs) ds all (sym (ap open_count shown) ∙ none))

-- a formula isn't decided
pub undecided : (owner : Option (List ℕ)) (p : Parts) (fs gs : List Made) (s : Stop) → gs ≡ fs → FormulasListed owner p (Ok (map formula_as fs)) → Does (AllDecided owner p 1 (map formula_as gs)) (Err s)
    → Does (Printing spells (CheckAnswered owner p)) (Err s)
undecided owner p fs gs s given listed decided =
    prints_after spells (FormulasListed owner p) (λ os. Then (AllDecided owner p 1 os) (λ ds. Gives (check_answer p os ds))) (map formula_as fs) (Err s) listed
    (prints_refused spells (AllDecided owner p 1 (map formula_as fs)) (λ ds. Gives (check_answer p (map formula_as fs) ds)) s (subst (λ xs. Does (AllDecided owner p 1 (map formula_as xs)) (Err s)) given decided))
