-- The formulas of a change, part after part.
use Rattle.std.proofs.Common.{◌≡◌, refl, sym, ℕ, ◌++◌, List, [], ◌∷◌, length}
use Rattle.sp_core.specs.Parts.{Parts}
use Rattle.sp_core.specs.Tree.{Tree, Trees}
use Rattle.std.proofs.lemmas.List.Elements.{All-head}
use Rattle.sp_sequent.specs.declared.formula.Formula.{Formula as Made}
use Rattle.sp_sequent.specs.declared.formula.FormulaKind.TheVariants as is
use Rattle.sp_formulas.specs.Formulas.{Formula, level_at}
use Rattle.sp_formulas.specs.Generated.{IsAdded, IsRefused, IsUnderWay}
use Rattle.sp_formulas.specs.Items.{Change}
use Rattle.sp_formulas.specs.Typed.{AreTypedFormulas, IsTypedFormula}
use Rattle.sp_formulas.specs.declared.fault.FormulaFault.{FormulaFault}
use Rattle.sp_formulas.proofs.WayLemmas.{way_refused, way_start, way_step, way_typed}
use Rattle.sp_generator.specs.declared.site.Site.{Site}
use Rattle.sp_generator.specs.Sites.{change_at, formulas_at, guards_at, targets_at, value_at}

module _ (p : Parts) (s : Site) (g : ℕ) (ds : Trees) (e u : Tree) (level : u ≡ level_at p g ds) (old : List Made) where
  abbrev pub change_formulas : List Formula
  change_formulas = formulas_at p s (Change g ds e)

  abbrev pub behind_own : List Formula
  behind_own = guards_at p s is.GuardReference u ++ (value_at p s is.ValueReference u e ++ targets_at p s ds)

  abbrev pub behind_guards : List Formula
  behind_guards = value_at p s is.ValueReference u e ++ targets_at p s ds

  split : change_formulas ≡ (change_at p s u ∷ []) ++ behind_own
  split = λ i. change_at p s (sym level i) ∷ (guards_at p s is.GuardReference (sym level i) ++ (value_at p s is.ValueReference (sym level i) e ++ targets_at p s ds))

  pub own_typed : AreTypedFormulas p change_formulas → IsTypedFormula p (change_at p s u)
  own_typed h = All-head (IsTypedFormula p) (change_at p s u) [] (way_typed p old change_formulas old change_formulas behind_own (change_at p s u ∷ []) (way_start p old change_formulas) split h)

  pub own_refused : (f : FormulaFault) → IsRefused p (length old) (change_at p s u ∷ []) f → IsRefused p (length old) change_formulas f
  own_refused f r = way_refused p old change_formulas old change_formulas behind_own (change_at p s u ∷ []) f (way_start p old change_formulas) split r

  module _ (first : List Made) (a : IsAdded p old first (change_at p s u ∷ [])) where
    way1 : IsUnderWay p old first behind_own change_formulas
    way1 = way_step p old change_formulas old first change_formulas behind_own (change_at p s u ∷ []) (way_start p old change_formulas) split a

    pub guards_typed : AreTypedFormulas p change_formulas → AreTypedFormulas p (guards_at p s is.GuardReference u)
    guards_typed h = way_typed p old change_formulas first behind_own behind_guards (guards_at p s is.GuardReference u) way1 refl h

    pub guards_refused : (f : FormulaFault) → IsRefused p (length first) (guards_at p s is.GuardReference u) f → IsRefused p (length old) change_formulas f
    guards_refused f r = way_refused p old change_formulas first behind_own behind_guards (guards_at p s is.GuardReference u) f way1 refl r

    module _ (second : List Made) (b : IsAdded p first second (guards_at p s is.GuardReference u)) where
      way2 : IsUnderWay p old second behind_guards change_formulas
      way2 = way_step p old change_formulas first second behind_own behind_guards (guards_at p s is.GuardReference u) way1 refl b

      pub value_typed : AreTypedFormulas p change_formulas → AreTypedFormulas p (value_at p s is.ValueReference u e)
      value_typed h = way_typed p old change_formulas second behind_guards (targets_at p s ds) (value_at p s is.ValueReference u e) way2 refl h

      pub value_refused : (f : FormulaFault) → IsRefused p (length second) (value_at p s is.ValueReference u e) f → IsRefused p (length old) change_formulas f
      value_refused f r = way_refused p old change_formulas second behind_guards (targets_at p s ds) (value_at p s is.ValueReference u e) f way2 refl r

      pub targets_way : (third : List Made) → IsAdded p second third (value_at p s is.ValueReference u e) → IsUnderWay p old third (targets_at p s ds) change_formulas
      targets_way third c = way_step p old change_formulas second third behind_guards (targets_at p s ds) (value_at p s is.ValueReference u e) way2 refl c
