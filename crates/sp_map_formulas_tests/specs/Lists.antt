-- The flow formulas of the worked mappings, written down by hand.
use Rattle.std.specs.Prelude.{ℕ, List, [], ◌∷◌, codes}
use Rattle.std.specs.Fmt.{decimal}
use Rattle.sp_values.specs.declared.value.Op.TheVariants as op
use Rattle.sp_values.specs.declared.value.Value.TheVariants as value
use Rattle.sp_core.specs.Tree.{Tree, Const, Var, Not, Two, Param, none, more}
use Rattle.sp_sequent.specs.declared.formula.FormulaKind.TheVariants as is
use Rattle.sp_formulas.specs.Formulas.{Formula}
use Rattle.sp_map_formulas_tests.specs.Worked.{segment_named}

abbrev pub level_low : Tree
level_low = Const (value.Level 0)

-- `scls` at a variable
abbrev pub class_of : ℕ → Tree
class_of k = Param 1 (more (Var k) none)

abbrev pub below : Tree → Tree → Tree
below a b = Two op.LevelLe a b

-- `NOT (x = ?)`
abbrev pub known : ℕ → Tree
known k = Not (Two op.Same (Var k) (Const value.Unknown))

-- a formula of `data(f)`
abbrev pub of_data : List Tree → Tree → Formula
of_data hyps goal = record {
  kind = is.MappingReference;
  fun = 0;
  name = codes "data";
  vars = segment_named (codes "f") ∷ [];
  hypotheses = known 0 ∷ hyps;
  goal = goal;
}

-- where the level of `data(f)` is `scls(f)`, and where it is LOW
abbrev pub down_list : List Formula
down_list = of_data [] (below (class_of 0) (class_of 0)) ∷ []

abbrev pub low_list : List Formula
low_list = of_data [] (below (class_of 0) level_low) ∷ []

-- the condition is assumed
abbrev pub guarded_list : List Formula
guarded_list = of_data (below (class_of 0) level_low ∷ []) (below (class_of 0) level_low) ∷ []

-- the reference in the arguments, and the one around it
abbrev pub nested_list : List Formula
nested_list = of_data [] (below (class_of 0) (class_of 0)) ∷ of_data [] (below (class_of 0) (class_of 0)) ∷ []

-- the quantifier's variable is #0, and assumed proper
abbrev pub clean_list : List Formula
clean_list = record {
  kind = is.MappingReference;
  fun = 2;
  name = codes "clean";
  vars = segment_named (35 ∷ decimal 0) ∷ [];
  hypotheses = known 0 ∷ [];
  goal = below (class_of 0) level_low;
} ∷ []
