-- The list of a specification's formulas, by the parts in which it is made.
use Rattle.std.specs.Prelude.{◌≡◌, ℕ, List, [], ◌++◌, map, None}
use Rattle.std.specs.List.{flat_map}
use Rattle.sp_core.specs.declared.function.Function.{Function}
use Rattle.sp_core.specs.Effects.{effect_trees}
use Rattle.sp_core.specs.Parts.{Parts}
use Rattle.sp_core.specs.Tree.{tree}
use Rattle.sp_sequent.specs.declared.formula.Formula.{Formula as Made}
use Rattle.sp_sequent.specs.declared.formula.FormulaKind.TheVariants as is
use Rattle.sp_formulas.specs.Formulas.{Formula, agreements, conditions, exception_formulas, formula_as, formulas, item_formulas, spot}
use Rattle.sp_formulas.specs.Items.{items_in}
use Rattle.sp_formulas.specs.Limits.{first_fault}

-- those of a function's exceptions
abbrev pub exceptions_at : Parts → ℕ → Function → List Formula
exceptions_at p g f = exception_formulas p (spot is.ExceptionReference g f [] (tree f.level)) [] (conditions f)

-- those of its effects
abbrev pub effects_at : Parts → ℕ → Function → List Formula
effects_at p g f = flat_map (item_formulas p g f) (items_in (effect_trees f.kind)) ++ agreements p g f (items_in (effect_trees f.kind))

-- these are the formulas of the specification in order, and none of them exceeds a limit
pub record IsListed (p : Parts) (made : List Made) : Type 0 where
  pub all : map formula_as made ≡ formulas p
  pub within : first_fault p 1 (formulas p) ≡ None
