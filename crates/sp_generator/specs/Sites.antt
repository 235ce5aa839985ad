-- The formulas of a change or a result, part by part, and what is assumed where it is made.
use Rattle.std.specs.Prelude.{◌≡◌, List, ◌++◌, map}
use Rattle.sp_values.specs.declared.value.Op.TheVariants as op
use Rattle.sp_core.specs.Parts.{Parts}
use Rattle.sp_core.specs.Tree.{Tree, Trees, Two, tree}
use Rattle.sp_sequent.specs.declared.formula.FormulaKind.{FormulaKind}
use Rattle.sp_sequent.specs.declared.formula.FormulaKind.TheVariants as is
use Rattle.sp_formulas.specs.Formulas.{Formula, about, deed_formulas, denied, formula, guard_formulas, reference_formulas, spot}
use Rattle.sp_formulas.specs.Generated.{hypothesis_tree}
use Rattle.sp_formulas.specs.Items.{Deed}
use Rattle.sp_formulas.specs.References.{references, references_in}
use Rattle.sp_formulas.specs.declared.spot.Hypothesis.{Hypothesis}
use Rattle.sp_generator.specs.declared.site.Site.{Site}

-- that the exceptions are false, and then that the guards are true besides
abbrev pub AreDenials : Site → List Hypothesis → Type 0
AreDenials s hyps = map hypothesis_tree hyps ≡ denied s.function.now

abbrev pub AreAssumptions : Site → List Hypothesis → Type 0
AreAssumptions s hyps = map hypothesis_tree hyps ≡ denied s.function.now ++ map tree s.guards.now

-- all formulas of what is made there
abbrev pub formulas_at : Parts → Site → Deed → List Formula
formulas_at p s d = deed_formulas p s.fun s.function.now s.vars.now (map tree s.guards.now) d

-- the formula of a change to a function of this level
abbrev pub change_at : Parts → Site → Tree → Formula
change_at p s level =
    formula p (about is.Change s.fun s.function.now) 0 s.vars.now (denied s.function.now ++ map tree s.guards.now) (Two op.LevelLe (tree s.function.now.level) level)

-- those of references in the guards, in the value and in the arguments of a change
abbrev pub guards_at : Parts → Site → FormulaKind → Tree → List Formula
guards_at p s k upper = guard_formulas p (spot k s.fun s.function.now s.vars.now upper) (denied s.function.now) (map tree s.guards.now)

abbrev pub value_at : Parts → Site → FormulaKind → Tree → Tree → List Formula
value_at p s k upper e = reference_formulas p (spot k s.fun s.function.now s.vars.now upper) (denied s.function.now ++ map tree s.guards.now) (references e)

abbrev pub targets_at : Parts → Site → Trees → List Formula
targets_at p s ds = reference_formulas p (spot is.TargetReference s.fun s.function.now s.vars.now (tree s.function.now.level)) (denied s.function.now) (references_in ds)
