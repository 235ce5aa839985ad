-- Where no decision is open, no formula has an open branch.
use Rattle.std.proofs.Common.{◌≡◌, ◌∙◌, ℕ, ◌+◌, List, [], ◌∷◌, Option, Ok, Err, ap, map, sym}
use Rattle.std.specs.List.{All}
use Rattle.std.proofs.lemmas.List.Elements.{All-cons, All-head, All-nil, All-tail}
use Rattle.sp_core.specs.Parts.{Parts}
use Rattle.sp_sequent.specs.declared.formula.Formula.{Formula as Made}
use Rattle.sp_sequent.specs.Claims.{claim_of, question_of}
use Rattle.sp_claims.specs.Laws.{HasNoOpenBranch}
use Rattle.sp_formulas.specs.Formulas.{Formula, formula_as}
use Rattle.sp_deciding.specs.Decided.{AllDecided, FormulaDecided, open_count}
use Rattle.sp_deciding.specs.Laws.{IsClosed}
use Rattle.sp_deciding.specs.declared.deciding.Decision.{Decision}
use Rattle.sp_deciding.specs.declared.deciding.Decision.TheVariants as decision

module _ (owner : Option (List ℕ)) (p : Parts) where
  closed_one : (n : ℕ) (o : Formula) (d : Decision) (ds : List Decision) → FormulaDecided owner p n o (Ok d) → open_count (d ∷ ds) ≡ 0 → IsClosed p o × (open_count ds ≡ 0)
  closed_one n o decision.Proved ds h e = (h.0, e)
  closed_one n o (decision.Open vs) ds h e = absurd cc

  pub all_closed : (n : ℕ) (os : List Formula) (ds : List Decision) → AllDecided owner p n os (Ok ds) → open_count ds ≡ 0 → All (IsClosed p) os
  all_closed n [] ds h e = All-nil (IsClosed p)
  all_closed n (o ∷ os) ds (Err r, first, rest) e = absurd cc
  all_closed n (o ∷ os) ds (Ok d, first, (Err r, second, rest)) e = absurd cc
  all_closed n (o ∷ os) ds (Ok d, first, (Ok more, second, rest)) e =
      let same : ds ≡ d ∷ more = cc in
      let one = closed_one n o d more first (sym (ap open_count same) ∙ e) in
      All-cons (IsClosed p) o os one.0 (all_closed (n + 1) os more second one.1)

-- the same of what is made
pub made_closed : (p : Parts) (fs : List Made) → All (IsClosed p) (map formula_as fs) → All (λ f. HasNoOpenBranch (question_of p (claim_of f))) fs
made_closed p [] h = All-nil (λ f. HasNoOpenBranch (question_of p (claim_of f)))
made_closed p (f ∷ fs) h =
    All-cons (λ f. HasNoOpenBranch (question_of p (claim_of f))) f fs (All-head (IsClosed p) (formula_as f) (map formula_as fs) h)
    (made_closed p fs (All-tail (IsClosed p) (formula_as f) (map formula_as fs) h))
