-- What a site's structs make are the parts of its formulas.
use Rattle.std.proofs.Common.{◌≡◌, sym, ◌∙◌, ap, List, ◌++◌, map}
use Rattle.sp_core.specs.declared.expr.Expr.{Expr}
use Rattle.sp_core.specs.Parts.{Parts}
use Rattle.sp_core.specs.Tree.{Tree, Trees, Two, tree, trees_of}
use Rattle.sp_values.specs.declared.value.Op.TheVariants as op
use Rattle.sp_sequent.specs.declared.formula.FormulaKind.{FormulaKind}
use Rattle.sp_sequent.specs.declared.formula.FormulaKind.TheVariants as is
use Rattle.sp_formulas.specs.Formulas.{about, formula, guard_formulas, reference_formulas, spot}
use Rattle.sp_formulas.specs.Generated.{about_of, formula_of, hypothesis_tree, level_tree, spot_of}
use Rattle.sp_formulas.specs.References.{references, references_in}
use Rattle.sp_formulas.specs.declared.spot.Goal.TheVariants as how
use Rattle.sp_formulas.specs.declared.spot.Hypothesis.{Hypothesis}
use Rattle.sp_formulas.specs.declared.spot.Level.{Level}
use Rattle.sp_formulas.specs.declared.spot.Place.{Place}
use Rattle.sp_formulas.specs.declared.spot.Subject.{Subject}
use Rattle.sp_generator.specs.declared.site.Site.{Site}
use Rattle.sp_formulas.specs.Items.{Answer}
use Rattle.sp_generator.specs.Sites.{AreAssumptions, AreDenials, change_at, formulas_at, guards_at, targets_at, value_at}

-- a place below the function's own level
pub upper_is : (s : Site) (o : Place) (upper : Level) → spot_of o s.vars.now ≡ spot is.TargetReference s.fun s.function.now s.vars.now (level_tree upper) → level_tree upper ≡ tree s.function.now.level
    → spot_of o s.vars.now ≡ spot is.TargetReference s.fun s.function.now s.vars.now (tree s.function.now.level)
upper_is s o upper at l = at ∙ ap (spot is.TargetReference s.fun s.function.now s.vars.now) l

module _ (p : Parts) (s : Site) where
  pub own_is : (hyps : List Hypothesis) → AreAssumptions s hyps → (o : Subject) (lower upper : Level) → about_of o ≡ about is.Change s.fun s.function.now → o.known ≡ 0 → level_tree lower ≡ tree s.function.now.level
      → formula_of p o s.vars.now hyps (how.Below lower upper) ≡ change_at p s (level_tree upper)
  own_is hyps h o lower upper a k l = λ i. formula p (a i) (k i) s.vars.now (h i) (Two op.LevelLe (l i) (level_tree upper))

  module _ (k : FormulaKind) (o : Place) (upper : Tree) (at : spot_of o s.vars.now ≡ spot k s.fun s.function.now s.vars.now upper) where
    pub guards_are : (hyps before : List Hypothesis) → AreDenials s hyps → before ≡ hyps → guard_formulas p (spot_of o s.vars.now) (map hypothesis_tree before) (map tree s.guards.now) ≡ guards_at p s k upper
    guards_are hyps before h b = λ i. guard_formulas p (at i) ((ap (map hypothesis_tree) b ∙ h) i) (map tree s.guards.now)

    pub value_is : (hyps : List Hypothesis) → AreAssumptions s hyps → (e : Tree) → reference_formulas p (spot_of o s.vars.now) (map hypothesis_tree hyps) (references e) ≡ value_at p s k upper e
    value_is hyps h e = λ i. reference_formulas p (at i) (h i) (references e)

  pub targets_are : (o : Place) → spot_of o s.vars.now ≡ spot is.TargetReference s.fun s.function.now s.vars.now (tree s.function.now.level)
      → (hyps : List Hypothesis) → AreDenials s hyps → (ds : Trees) → reference_formulas p (spot_of o s.vars.now) (map hypothesis_tree hyps) (references_in ds) ≡ targets_at p s ds
  targets_are o at hyps h ds = λ i. reference_formulas p (at i) (h i) (references_in ds)

-- a result has the formulas of its guards and of its value
pub answer_is : (p : Parts) (s : Site) (e u : Tree) → u ≡ tree s.function.now.level → formulas_at p s (Answer e) ≡ guards_at p s is.ResultGuardReference u ++ value_at p s is.ResultReference u e
answer_is p s e u level = λ i. guards_at p s is.ResultGuardReference (sym level i) ++ value_at p s is.ResultReference (sym level i) e
