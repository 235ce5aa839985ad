-- Where nothing is left of one of two lists, no lines are; and what holds of each formula.
use Rattle.std.proofs.Common.{◌≡◌, ℕ, zero, suc, ◌<◌, ◌≤◌, List, [], ◌∷◌, arith, drop, get_or, length, map, refl, subst, sym}
use Rattle.std.specs.Prelude.{All}
use Rattle.std.proofs.lemmas.List.Elements.{All-head, All-tail}
use Rattle.sp_core.specs.declared.function.Formal.{Formal}
use Rattle.sp_core.specs.Parts.{Parts}
use Rattle.sp_core.specs.Tree.{Tree}
use Rattle.sp_sequent.specs.declared.formula.Formula.{Formula as Made}
use Rattle.sp_formulas.specs.Formulas.{Formula, formula_as}
use Rattle.sp_deciding.specs.Verdicts.{all_lines, atom_lines}

pub no_atoms : (p : Parts) (xs : List Formal) (es : List Tree) (ts : List ℕ) → atom_lines p xs es ts [] ≡ []
no_atoms p xs es [] = refl
no_atoms p xs es (t ∷ ts) = refl

pub no_decisions : (p : Parts) (n : ℕ) (os : List Formula) → all_lines p n os [] ≡ []
no_decisions p n [] = refl
no_decisions p n (o ∷ os) = refl

pub all_dropped : {X : Type 0} (xs : List X) (k : ℕ) → length xs ≤ k → drop k xs ≡ []
all_dropped [] zero h = refl
all_dropped [] (suc k) h = refl
all_dropped (x ∷ xs) zero h = absurd (omega (arith, h))
all_dropped (x ∷ xs) (suc k) h = all_dropped xs k (omega (arith, h))

-- what holds of each formula holds of the one in a place
pub typed_at : (P : Formula → Type 0) (fs : List Made) (k : ℕ) (f : Made) → All P (map formula_as fs) → k < length fs → f ≡ get_or fs k f → P (formula_as f)
typed_at P [] k f all h e = absurd (omega (arith, h))
typed_at P (x ∷ fs) zero f all h e = subst (λ y. P (formula_as y)) (sym e) (All-head P (formula_as x) (map formula_as fs) all)
typed_at P (x ∷ fs) (suc k) f all h e = typed_at P fs k f (All-tail P (formula_as x) (map formula_as fs) all) (omega (arith, h)) e
