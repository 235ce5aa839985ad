-- The lists of functions with conditions: their changes first, and then the trees of what stands in them.
use Rattle.std.proofs.Common.{◌≡◌, refl, ◌∙◌, ap, List, [], ◌∷◌, ◌++◌, map}
use Rattle.std.specs.List.{flat_map}
use Rattle.sp_lattice.specs.Order.{Order}
use Rattle.sp_values.specs.declared.value.Op.TheVariants as op
use Rattle.sp_values.specs.declared.value.Value.TheVariants as value
use Rattle.sp_core.specs.Effects.{effect_trees}
use Rattle.sp_core.specs.Tree.{Tree, Not, Two, Var, none, more, tree}
use Rattle.sp_core.proofs.TreeLemmas.{effect_lemmas, tree-Const, tree_lemmas}
use Rattle.sp_sequent.specs.declared.formula.FormulaKind.TheVariants as is
use Rattle.sp_formulas.specs.Formulas.{Formula, agreements, conditions, exception_formulas, formulas, item_formulas, reference_formula, spot}
use Rattle.sp_formulas.specs.Items.{Item, Change, items_in}
use Rattle.sp_formulas.specs.Moves.{put, settle}
use Rattle.sp_formulas.specs.References.{references}
use Rattle.sp_examples.specs.Common.{low}
use Rattle.sp_formulas_tests.specs.Lists.{each_is_one, first, known, level_low, mark_list, numeral, of_f, of_op, same, second, switch_list, value_of}
use Rattle.sp_formulas_tests.specs.Worked.{all_marked, mark, mark_function, marks, op_function, switches}

low_is : tree low ≡ level_low
low_is = tree-Const (value.Level 0)

-- Switches

op_items : items_in (effect_trees op_function.kind) ≡
    record { vars = []; guards = value_of 0 ∷ []; deed = Change 2 none (numeral 1) }
    ∷ record { vars = []; guards = value_of 1 ∷ []; deed = Change 2 none (numeral 2) }
    ∷ []
op_items = simp (effect_lemmas, tree_lemmas) refl

-- the list where LOW has this tree
abbrev switches_with : Tree → List Formula
switches_with l =
    of_op is.Change (value_of 0 ∷ []) (Two op.LevelLe (settle 0 l) (settle 0 (put none l)))
    ∷ of_op is.GuardReference [] (Two op.LevelLe (settle 0 (put none l)) (settle 0 (put none l)))
    ∷ of_op is.Change (value_of 1 ∷ []) (Two op.LevelLe (settle 0 l) (settle 0 (put none l)))
    ∷ of_op is.GuardReference [] (Two op.LevelLe (settle 0 (put none l)) (settle 0 (put none l)))
    ∷ of_op is.Agreement (value_of 0 ∷ value_of 1 ∷ []) (same (numeral 1) (numeral 2))
    ∷ []

pub switches_are : (o : Order) → formulas (switches o) ≡ switch_list
switches_are o =
    ap (λ (is' : List Item). (flat_map (item_formulas (switches o) 3 op_function) is' ++ agreements (switches o) 3 op_function is') ++ []) op_items
    ∙ ap switches_with low_is

-- Marks

mark_items : items_in (effect_trees mark_function.kind) ≡
    record { vars = mark ∷ []; guards = each_is_one 1 ∷ []; deed = Change 0 (more (Var 0) none) (numeral 1) }
    ∷ record { vars = mark ∷ []; guards = each_is_one 1 ∷ []; deed = Change 0 (more (Var 0) none) (numeral 2) }
    ∷ []
mark_items = simp (effect_lemmas, tree_lemmas) refl

exception_is : tree (all_marked 0) ≡ each_is_one 0
exception_is = simp tree_lemmas refl

-- the formulas of a change, and those behind the exception's, where the exception has this tree and LOW this one
abbrev change_with : Tree → Tree → Formula
change_with e l = of_f is.Change (first ∷ []) (known 0 ∷ Not (settle 1 e) ∷ each_is_one 1 ∷ []) (Two op.LevelLe (settle 1 l) (settle 1 (put (more (Var 0) none) l)))

abbrev guard_with : Tree → Tree → Formula
guard_with e l =
    of_f is.GuardReference (first ∷ second ∷ []) (known 0 ∷ known 1 ∷ Not (settle 2 e) ∷ []) (Two op.LevelLe (settle 2 (put (more (Var 1) none) l)) (settle 2 (put (more (Var 0) none) l)))

abbrev changes_with : Tree → Tree → List Formula
changes_with e l =
    change_with e l ∷ guard_with e l ∷ change_with e l ∷ guard_with e l
    ∷ of_f is.Agreement (first ∷ second ∷ []) (known 0 ∷ known 1 ∷ Not (settle 2 e) ∷ each_is_one 2 ∷ each_is_one 2 ∷ same (Var 0) (Var 1) ∷ []) (same (numeral 1) (numeral 2))
    ∷ []

abbrev marks_with : Order → Tree → List Formula
marks_with o e = ((map (reference_formula (marks o) (spot is.ExceptionReference 1 mark_function [] (tree low)) []) (references e) ++ []) ++ changes_with e (tree low)) ++ []

abbrev marks_low : Tree → List Formula
marks_low l = of_f is.ExceptionReference (first ∷ []) (known 0 ∷ []) (Two op.LevelLe (settle 1 (put (more (Var 0) none) l)) (settle 1 l)) ∷ changes_with (each_is_one 0) l

pub marks_are : (o : Order) → formulas (marks o) ≡ mark_list
marks_are o =
    ap (λ (is' : List Item). (exception_formulas (marks o) (spot is.ExceptionReference 1 mark_function [] (tree low)) [] (conditions mark_function)
    ++ (flat_map (item_formulas (marks o) 1 mark_function) is' ++ agreements (marks o) 1 mark_function is')) ++ []) mark_items
    ∙ ap (marks_with o) exception_is ∙ ap marks_low low_is
