-- A formula that is being made, up to the limit of its terms.
use Rattle.std.specs.Prelude.{◌≡◌, ◌<◌, ℕ, List, Some, map}
use Rattle.sp_text.specs.declared.limits.TheConstants.{MOST_FORMULA_NODES}
use Rattle.sp_core.specs.Parts.{Parts}
use Rattle.sp_core.specs.Tree.{Tree, tree}
use Rattle.sp_sequent.specs.Limits.{HasFewNodes, formula_nodes}
use Rattle.sp_formulas.specs.Formulas.{Formula}
use Rattle.sp_formulas.specs.Limits.{fault_of, terms_fault}
use Rattle.sp_formulas.specs.declared.drafting.Draft.{Draft}
use Rattle.sp_formulas.specs.declared.fault.FormulaFault.{FormulaFault}
use Rattle.sp_formulas.specs.declared.fault.FormulaFault.TheVariants as fault

-- the limit that formula number n exceeds; want of memory has no cause
abbrev pub IsFault : Parts → ℕ → Formula → FormulaFault → Type 0
IsFault p n o fault.Memory = Unit {0}
IsFault p n o e = fault_of p n o ≡ Some e

-- a refusal other than for want of memory comes where the nodes are too many
abbrev pub IsOverNodes : ℕ → List Tree → Tree → FormulaFault → Type 0
IsOverNodes n hypotheses goal fault.Memory = Unit {0}
IsOverNodes n hypotheses goal (fault.TooManyNodes k) = (k ≡ n) × (MOST_FORMULA_NODES < formula_nodes hypotheses goal)
IsOverNodes n hypotheses goal e = ⊥

-- it has the hypotheses and the goal of formula number n, of whose limits only that of terms is left to judge
pub record IsDraft (p : Parts) (n : ℕ) (o : Formula) (d : Draft) : Type 0 where
  pub hypotheses : map tree d.hyps.items ≡ o.hypotheses
  pub goal : tree d.goal ≡ o.goal
  pub few_nodes : HasFewNodes o.hypotheses o.goal
  pub left : fault_of p n o ≡ terms_fault n o
