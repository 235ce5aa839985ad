-- What is printed of certificates or decisions, as the answer.
use Rattle.std.proofs.Common.{◌≡◌, ◌∙◌, ℕ, zero, suc, ◌<◌, ◌≤◌, ◌++◌, List, None, Result, Ok, ap, arith, length, map, refl, subst, sym}
use Rattle.std.proofs.lemmas.List.{length-map}
use Rattle.sp_cert.specs.Spelling.{spelling}
use Rattle.sp_cert.specs.Tree.{Tree}
use Rattle.sp_core.specs.Parts.{Parts}
use Rattle.sp_sequent.specs.declared.formula.Formula.{Formula as Made}
use Rattle.sp_formulas.specs.Formulas.{formula_as, formulas}
use Rattle.sp_frame.specs.declared.refusal.Printed.{Printed}
use Rattle.sp_frame.specs.declared.refusal.Refusal.{Refusal}
use Rattle.sp_frame.specs.declared.refusal.Stop.{Stop}
use Rattle.sp_frame.specs.declared.refusal.Verdict.{Verdict}
use Rattle.sp_frame.specs.declared.refusal.Verdict.TheVariants as verdict
use Rattle.sp_frame.specs.Endings.{Printing, Shows, certified, printed, verdict_of}
use Rattle.sp_frame.specs.Steps.{Does, Gives, Then}
use Rattle.sp_frame.proofs.Connective.{prints_after}
use Rattle.sp_formula_list.specs.Listed.{FormulasListed}
use Rattle.sp_deciding.specs.Decided.{AllDecided, open_count}
use Rattle.sp_report.specs.Headings.{interface_line}
use Rattle.sp_deciding.specs.Verdicts.{all_lines, last_line}
use Rattle.sp_check_command.specs.Check.{check_text}
use Rattle.sp_deciding.specs.declared.deciding.Decision.{Decision}
use Rattle.sp_prove_command.specs.Certificates.{AreCertificates, AreCertified, Certificates, second_format}
use Rattle.sp_prove_command.specs.Kept.{AreKept}
use Rattle.sp_prove_command.specs.Prove.{ProveAnswered, answer_by, prove_answer}
use Rattle.sp_prove_command.proofs.Kept.{all_certified, spelled}

-- the report is of this answer
abbrev IsAnswer : Parts → List Made → List Decision → List ℕ → Verdict → Type 0
IsAnswer p fs ds text v = (a : Certificates) × Gives {E = Refusal} (prove_answer p (map formula_as fs) ds) (Ok a) × Shows AreCertificates a text × (v ≡ verdict_of a)

-- no formula is open: the certificates
pub proved : (p : Parts) (fs : List Made) (ds : List Decision) (ts : List Tree) (text : List ℕ) (v : Verdict) → map formula_as fs ≡ formulas p → length fs ≤ 4096 → AreKept p (map formula_as fs) ds ts
    → open_count ds ≡ 0 → text ≡ spelling (second_format ts) → v ≡ verdict.Ok → IsAnswer p fs ds text v
proved p fs ds ts text v listed few kept none bytes same =
    let os = map formula_as fs in
    let count : length os ≤ 4096 = omega (arith, few, length-map fs formula_as) in
    let all = all_certified p 1 os ds ts kept none (omega (arith, count)) in (
      certified p,
      ap (λ k. Ok (answer_by k p os ds)) (sym none),
      record { trees = ts; certified = subst (λ xs. AreCertified p xs ts) listed all.0; within = spelled p os ds ts kept none count; spelt = bytes },
      same,
    )

-- some formula is open: the lines
pub unproved : (p : Parts) (fs : List Made) (ds : List Decision) (k : ℕ) (text : List ℕ) (v : Verdict) → k ≡ open_count ds → 0 < k
    → text ≡ interface_line p ++ all_lines p 1 (map formula_as fs) ds ++ last_line (length fs) k → v ≡ verdict.Refused → IsAnswer p fs ds text v
unproved p fs ds zero text v is more bytes same = absurd (omega (arith, more))
unproved p fs ds (suc k) text v is more bytes same =
    let os = map formula_as fs in (
      printed (check_text p os ds) verdict.Refused,
      ap (λ j. Ok (answer_by j p os ds)) is,
      bytes ∙ ap (λ n. interface_line p ++ all_lines p 1 os ds ++ last_line n (suc k)) (sym (length-map fs formula_as)) ∙ ap (λ m. interface_line p ++ all_lines p 1 os ds ++ last_line (length os) m) is,
      same,
    )

-- the formulas are listed and decided, and then the answer is given
pub answered : (p : Parts) (fs gs hs : List Made) (ds : List Decision) (r : Result Printed Stop) → gs ≡ fs → hs ≡ fs
    → FormulasListed None p (Ok (map formula_as fs)) → AllDecided None p 1 (map formula_as gs) (Ok ds) → Does (Printing AreCertificates (Gives (prove_answer p (map formula_as hs) ds))) r
    → Does (Printing AreCertificates (ProveAnswered p)) r
answered p fs gs hs ds r given lent listed decided told =
    let all = subst (λ xs. AllDecided None p 1 (map formula_as xs) (Ok ds)) given decided in
    let answer = subst (λ xs. Does (Printing AreCertificates (Gives (prove_answer p (map formula_as xs) ds))) r) lent told in
    prints_after AreCertificates (FormulasListed None p) (λ os. Then (AllDecided None p 1 os) (λ ds. Gives (prove_answer p os ds))) (map formula_as fs) r listed
    (prints_after AreCertificates (AllDecided None p 1 (map formula_as fs)) (λ ds. Gives (prove_answer p (map formula_as fs) ds)) ds r all answer)
