-- What is printed of a sample, as the answer.
use Rattle.std.proofs.Common.{◌≡◌, ◌∙◌, ℕ, zero, suc, ◌<◌, List, None, Result, Ok, Err, ap, arith, length, map, refl, subst, sym}
use Rattle.std.proofs.lemmas.List.{length-map}
use Rattle.sp_core.specs.Parts.{Parts}
use Rattle.sp_sequent.specs.declared.formula.Formula.{Formula as Made}
use Rattle.sp_formulas.specs.Formulas.{formula_as}
use Rattle.sp_frame.specs.declared.refusal.Printed.{Printed}
use Rattle.sp_frame.specs.declared.refusal.Refusal.{Refusal}
use Rattle.sp_frame.specs.declared.refusal.Stop.{Stop}
use Rattle.sp_frame.specs.declared.refusal.Verdict.{Verdict}
use Rattle.sp_frame.specs.declared.refusal.Verdict.TheVariants as verdict
use Rattle.sp_frame.specs.Endings.{Printing, Shows, verdict_of}
use Rattle.sp_frame.specs.Steps.{Does, Gives, Then}
use Rattle.sp_frame.specs.Uncertified.{Lines, spells}
use Rattle.sp_frame.proofs.Connective.{prints_after, prints_refused}
use Rattle.sp_formula_list.specs.Listed.{FormulasListed}
use Rattle.sp_deciding.specs.Decided.{AllDecided, open_count}
use Rattle.sp_deciding.specs.Verdicts.{verdict_by}
use Rattle.sp_deciding.specs.declared.deciding.Decision.{Decision}
use Rattle.sp_check_command.specs.Check.{check_text}
use Rattle.sp_sample_command.specs.Sample.{SampleAnswered}
use Rattle.sp_sample_command.specs.Summary.{sample_answer, sample_text, summary_of, term_count}

module _ (n : ℕ) (p : Parts) (fs : List Made) (ds : List Decision) where
  -- a text with a verdict is told where it is that of the number of open formulas
  told : (k : ℕ) (text : List ℕ) (v : Verdict) → k ≡ open_count ds → text ≡ sample_text n p (map formula_as fs) ds k → v ≡ verdict_by k
      → (a : Lines) × Gives {E = Refusal} (sample_answer n p (map formula_as fs) ds) (Ok a) × Shows spells a text × (v ≡ verdict_of a)
  told k text v is bytes same = (sample_answer n p (map formula_as fs) ds, refl, bytes ∙ ap (sample_text n p (map formula_as fs) ds) is, same ∙ ap verdict_by is)

  pub told_open : (k : ℕ) (text : List ℕ) → 0 < k → k ≡ open_count ds → text ≡ check_text p (map formula_as fs) ds
      → (a : Lines) × Gives {E = Refusal} (sample_answer n p (map formula_as fs) ds) (Ok a) × Shows spells a text × (verdict.Refused ≡ verdict_of a)
  told_open zero text some is bytes = absurd (omega (arith, some))
  told_open (suc k) text some is bytes = told (suc k) text verdict.Refused is bytes refl

  pub told_none : (functions terms : ℕ) (text : List ℕ) → 0 ≡ open_count ds → functions ≡ length p.functions → terms ≡ term_count (map formula_as fs)
      → text ≡ summary_of n functions (length fs) terms
      → (a : Lines) × Gives {E = Refusal} (sample_answer n p (map formula_as fs) ds) (Ok a) × Shows spells a text × (verdict.Ok ≡ verdict_of a)
  told_none functions terms text is are count bytes =
      told 0 text verdict.Ok is
      (bytes ∙ ap (λ k. summary_of n k (length fs) terms) are ∙ ap (λ k. summary_of n (length p.functions) k terms) (sym (length-map fs formula_as)) ∙ ap (λ k. summary_of n (length p.functions) (length (map formula_as fs)) k) count)
      refl

-- the formulas are listed and decided, and then it is told
pub answered : (n : ℕ) (p : Parts) (fs gs hs : List Made) (ds es : List Decision) (r : Result Printed Stop) → gs ≡ fs → hs ≡ fs → es ≡ ds
    → FormulasListed None p (Ok (map formula_as fs)) → AllDecided None p 1 (map formula_as gs) (Ok ds) → Does (Printing spells (Gives (sample_answer n p (map formula_as hs) es))) r
    → Does (Printing spells (SampleAnswered n p)) r
answered n p fs gs hs ds es r given lent shown listed decided told =
    let all = subst (λ xs. AllDecided None p 1 (map formula_as xs) (Ok ds)) given decided in
    let lines = subst (λ xs. Does (Printing spells (Gives (sample_answer n p (map formula_as xs) ds))) r) lent (subst (λ xs. Does (Printing spells (Gives (sample_answer n p (map formula_as hs) xs))) r) shown told) in
    prints_after spells (FormulasListed None p) (λ os. Then (AllDecided None p 1 os) (λ ds. Gives (sample_answer n p os ds))) (map formula_as fs) r listed
    (prints_after spells (AllDecided None p 1 (map formula_as fs)) (λ ds. Gives (sample_answer n p (map formula_as fs) ds)) ds r all lines)

-- a formula isn't decided
pub undecided : (n : ℕ) (p : Parts) (fs gs : List Made) (s : Stop) → gs ≡ fs → FormulasListed None p (Ok (map formula_as fs)) → Does (AllDecided None p 1 (map formula_as gs)) (Err s)
    → Does (Printing spells (SampleAnswered n p)) (Err s)
undecided n p fs gs s given listed decided =
    prints_after spells (FormulasListed None p) (λ os. Then (AllDecided None p 1 os) (λ ds. Gives (sample_answer n p os ds))) (map formula_as fs) (Err s) listed
    (prints_refused spells (AllDecided None p 1 (map formula_as fs)) (λ ds. Gives (sample_answer n p (map formula_as fs) ds)) s (subst (λ xs. Does (AllDecided None p 1 (map formula_as xs)) (Err s)) given decided))
