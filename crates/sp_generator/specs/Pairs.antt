-- The agreement of two changes.
use Rattle.std.specs.Prelude.{ℕ, List, ◌++◌, length, map}
use Rattle.sp_values.specs.declared.value.Op.TheVariants as op
use Rattle.sp_values.specs.declared.value.Ty.{Ty}
use Rattle.sp_core.specs.declared.function.Function.{Function}
use Rattle.sp_core.specs.Parts.{Parts}
use Rattle.sp_core.specs.Tree.{Tree, Trees, Two, tree, trees_of}
use Rattle.sp_sequent.specs.declared.formula.FormulaKind.TheVariants as is
use Rattle.sp_formulas.specs.Formulas.{Formula, about, agreement_of, denied, equal_all, formula, guards_of}
use Rattle.sp_formulas.specs.Items.{Item}
use Rattle.sp_formulas.specs.Moves.{raise, raise_all}
use Rattle.sp_generator.specs.declared.pairs.Given.{Given}
use Rattle.sp_generator.specs.declared.pairs.Pair.{Pair}
use Rattle.sp_generator.specs.Collected.{item_as}

abbrev pub first_of : Pair → Item
first_of a = item_as a.first.now

abbrev pub second_of : Pair → Item
second_of a = item_as a.second.now

-- an expression of the second one, with its own variables behind those of the first
abbrev pub raised_in : Pair → Tree → Tree
raised_in a = raise (length a.function.now.formals) (length (first_of a).vars)

-- that both change one place
abbrev pub same_place : Pair → List Tree → List Tree → List Tree
same_place a ds es = equal_all (trees_of ds) (raise_all (length a.function.now.formals) (length (first_of a).vars) (trees_of es))

-- what is assumed besides the denials: the guards of both, and that both change one place
abbrev pub both_assumed : Pair → List Tree → List Tree → List Tree
both_assumed a ds es = (first_of a).guards ++ (map (raised_in a) (guards_of a.function.now (second_of a)) ++ same_place a ds es)

-- the formula about a function that two values are the same where no exception is true and these hypotheses are
abbrev pub agreement_over : Parts → ℕ → Function → List Ty → List Tree → Tree → Tree → Formula
agreement_over p g f vars hyps d e = formula p (about is.Agreement g f) 0 vars (denied f ++ hyps) (Two op.Same d e)

-- the formula of two changes that give these
abbrev pub agreement_at : Parts → Pair → Given → Given → Formula
agreement_at p a x y =
    agreement_over p a.fun a.function.now ((first_of a).vars ++ (second_of a).vars) (both_assumed a (map tree x.args.now) (map tree y.args.now)) (tree x.value.now) (raised_in a (tree y.value.now))

-- those of two items
abbrev pub agreements_at : Parts → Pair → List Formula
agreements_at p a = agreement_of p a.fun a.function.now (first_of a) (second_of a) (first_of a).deed (second_of a).deed
