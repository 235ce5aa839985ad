-- What is printed of judgements, and of migrated files, as the answer.
use Rattle.std.proofs.Common.{◌≡◌, ◌∙◌, ℕ, ◌++◌, List, [], None, Result, Ok, ap, length, map, refl, subst, sym}
use Rattle.std.proofs.lemmas.List.{length-map}
use Rattle.sp_core.specs.Parts.{Parts}
use Rattle.sp_sequent.specs.declared.formula.Formula.{Formula as Made}
use Rattle.sp_cert.specs.Spelling.{spelling}
use Rattle.sp_cert.specs.Tree.{File, Tree}
use Rattle.sp_formulas.specs.Formulas.{Formula, formula_as}
use Rattle.sp_report.specs.Headings.{interface_line}
use Rattle.sp_frame.specs.declared.refusal.Printed.{Printed}
use Rattle.sp_frame.specs.declared.refusal.Refusal.{Refusal}
use Rattle.sp_frame.specs.declared.refusal.Stop.{Stop}
use Rattle.sp_frame.specs.declared.refusal.Verdict.{Verdict}
use Rattle.sp_frame.specs.declared.refusal.Verdict.TheVariants as verdict
use Rattle.sp_frame.specs.Endings.{Printing, Shows, verdict_of}
use Rattle.sp_frame.specs.Steps.{Does, Gives, Then}
use Rattle.sp_frame.specs.Uncertified.{Lines, spells}
use Rattle.sp_frame.proofs.Connective.{prints_after}
use Rattle.sp_formula_list.specs.Listed.{FormulasListed}
use Rattle.sp_verify_command.specs.declared.judging.Judgement.{Judgement}
use Rattle.sp_verify_command.specs.Judged.{closing_line, extra_count, extra_line, file_verdict, judgement_lines, judgements, refused_count, verdict_by}
use Rattle.sp_verify_command.specs.Migrate.{migrate_answer, migrate_by, migrated}
use Rattle.sp_verify_command.specs.Verify.{verify_answer}

-- four texts, one behind the other
pub lines_are : (none first second third fourth a b c d : List ℕ) → none ≡ [] → first ≡ none ++ a → second ≡ first ++ b → third ≡ second ++ c → fourth ≡ third ++ d → fourth ≡ ((a ++ b) ++ c) ++ d
lines_are none first second third fourth a b c d p q r s t =
    t ∙ ap (λ x. x ++ d) (s ∙ ap (λ x. x ++ c) (r ∙ ap (λ x. x ++ b) (q ∙ ap (λ x. x ++ a) p)))

module _ (p : Parts) (fs : List Made) (ts : List Tree) (js : List Judgement) (k x : ℕ) (v : Verdict) (are : js ≡ judgements p (map formula_as fs) ts) (refused : k ≡ refused_count js)
    (extra : x ≡ extra_count (map formula_as fs) ts) (is : verdict_by k x ≡ v) where
  abbrev os : List Formula
  os = map formula_as fs

  counted : k ≡ refused_count (judgements p os ts)
  counted = refused ∙ ap refused_count are

  -- the verdict on the file
  pub file_is : file_verdict p os ts ≡ v
  file_is = ap (λ n. verdict_by n (extra_count os ts)) (sym counted) ∙ ap (verdict_by k) (sym extra) ∙ is

  abbrev text_of : List Judgement → ℕ → ℕ → ℕ → Verdict → List ℕ
  text_of is n c m w = interface_line p ++ judgement_lines 1 os is ++ extra_line n ++ closing_line m c w

  -- the lines with this verdict
  pub told : (text : List ℕ) → text ≡ interface_line p ++ judgement_lines 1 os js ++ extra_line x ++ closing_line (length fs) k v
      → (a : Lines) × Gives {E = Refusal} (verify_answer p os ts) (Ok a) × Shows spells a text × (v ≡ verdict_of a)
  told text bytes = (
    verify_answer p os ts,
    refl,
    bytes ∙ ap (λ is. text_of is x k (length fs) v) are ∙ ap (λ n. text_of (judgements p os ts) n k (length fs) v) extra ∙ ap (λ c. text_of (judgements p os ts) (extra_count os ts) c (length fs) v) counted
        ∙ ap (λ m. text_of (judgements p os ts) (extra_count os ts) (refused_count (judgements p os ts)) m v) (sym (length-map fs formula_as))
        ∙ ap (text_of (judgements p os ts) (extra_count os ts) (refused_count (judgements p os ts)) (length os)) (sym file_is),
    sym file_is,
  )

module _ (p : Parts) (os : List Formula) (f : File) where
  -- a file that isn't accepted is told as by `verify`
  pub not_migrated : (r : Result Printed Stop) → file_verdict p os f.trees ≡ verdict.Refused → Does (Printing spells (Gives (verify_answer p os f.trees))) r
      → Does (Printing spells (Gives (migrate_answer p os f))) r
  not_migrated r e h = subst (λ a. Does (Printing spells (Gives a)) r) (sym (ap (migrate_by p os f) e)) h

  -- one that is accepted is migrated
  pub is_migrated : (text : List ℕ) → file_verdict p os f.trees ≡ verdict.Ok → text ≡ spelling (migrated p os f)
      → (a : Lines) × Gives {E = Refusal} (migrate_answer p os f) (Ok a) × Shows spells a text × (verdict.Ok ≡ verdict_of a)
  is_migrated text e bytes =
      let by : migrate_answer p os f ≡ migrate_by p os f verdict.Ok = ap (migrate_by p os f) e in
      (migrate_by p os f verdict.Ok, ap Ok (sym by), bytes, refl)

-- the formulas are listed, and then it is told of them
pub answered : (p : Parts) (answers : List Formula → Lines) (fs gs : List Made) (r : Result Printed Stop) → gs ≡ fs → FormulasListed None p (Ok (map formula_as fs))
    → Does (Printing spells (Gives (answers (map formula_as gs)))) r → Does (Printing spells (Then (FormulasListed None p) (λ os. Gives (answers os)))) r
answered p answers fs gs r given listed told =
    prints_after spells (FormulasListed None p) (λ os. Gives (answers os)) (map formula_as fs) r listed (subst (λ xs. Does (Printing spells (Gives (answers (map formula_as xs)))) r) given told)
