-- The plain tree that an effect stands for, and the changes and results in it, each with its guards and bound variables,
-- for the answer, the step and the flow formulas.
use Rattle.std.specs.Prelude.{ℕ, List, [], ◌∷◌, ◌++◌, map}
use Rattle.sp_values.specs.declared.value.Ty.{Ty}
use Rattle.sp_core.specs.declared.function.Effect.{Effect}
use Rattle.sp_core.specs.declared.function.Effect.TheOpen.{Effect-F}
use Rattle.sp_core.specs.declared.function.Effect.TheOpen as layer
use Rattle.sp_core.specs.declared.function.Effect.TheFolds.{fold-Effect}
use Rattle.sp_core.specs.declared.function.Kind.{Kind}
use Rattle.sp_core.specs.declared.function.Kind.TheVariants as kind
use Rattle.sp_core.specs.Tree.{Tree, Trees, Not, tree, trees_of}

-- an effect and a list of effects, with the forms of the code's type
mutual
  pub data EffectTree : Type 0 where
    Change : ℕ → Trees → Tree → EffectTree
    Answer : Tree → EffectTree
    If : Tree → EffectTrees → EffectTrees → EffectTree
    Every : ℕ → Ty → EffectTrees → EffectTree

  pub data EffectTrees : Type 0 where
    none : EffectTrees
    more : EffectTree → EffectTrees → EffectTrees

-- a list of effects as one value
abbrev pub effect_trees_of : List EffectTree → EffectTrees
effect_trees_of [] = none
effect_trees_of (w ∷ ws) = more w (effect_trees_of ws)

-- one form, with the tree of each part in its place
abbrev pub effect_step : Effect-F EffectTree → EffectTree
effect_step (layer.Change g ds e) = Change g (trees_of (map tree ds)) (tree e)
effect_step (layer.Answer e) = Answer (tree e)
effect_step (layer.If c as' bs) = If (tree c) (effect_trees_of as') (effect_trees_of bs)
effect_step (layer.Every k t es) = Every k t (effect_trees_of es)

-- the tree of an effect
abbrev pub effect_tree : Effect → EffectTree
effect_tree = fold-Effect EffectTree effect_step

-- the effects of a function; a V-function has none
abbrev pub effects_of : Kind → List Effect
effects_of (kind.Operation es) = es
effects_of (kind.Both t es) = es
effects_of k = []

-- the tree of a function's effects
abbrev pub effect_trees : Kind → EffectTrees
effect_trees k = effect_trees_of (map effect_tree (effects_of k))

-- A guard is the condition of an IF effect around a change or result: the condition itself for the THEN branch, its
-- denial for the ELSE branch.

-- a change: the types of the variables of the FORALL effects around it and its guards, both from the outermost; the
-- V-function, its arguments and the new value
pub record GuardedChange : Type 0 where
  pub vars : List Ty
  pub guards : List Tree
  pub fun : ℕ
  pub args : Trees
  pub value : Tree

-- a result, with its guards from the outermost
pub record GuardedResult : Type 0 where
  pub guards : List Tree
  pub value : Tree

-- the change below one more guard
abbrev pub change_under : Tree → GuardedChange → GuardedChange
change_under c a = record a { guards = c ∷ a.guards }

-- the change below one more FORALL effect
abbrev pub change_within : Ty → GuardedChange → GuardedChange
change_within t a = record a { vars = t ∷ a.vars }

-- the result below one more guard
abbrev pub result_under : Tree → GuardedResult → GuardedResult
result_under c o = record o { guards = c ∷ o.guards }

-- the changes of effects in text order
abbrev mutual
  pub changes : EffectTree → List GuardedChange
  changes (Change g ds e) = record { vars = []; guards = []; fun = g; args = ds; value = e } ∷ []
  changes (Answer e) = []
  changes (If c as' bs) = map (change_under c) (changes_in as') ++ map (change_under (Not c)) (changes_in bs)
  changes (Every k t ws) = map (change_within t) (changes_in ws)

  pub changes_in : EffectTrees → List GuardedChange
  changes_in none = []
  changes_in (more w ws) = changes w ++ changes_in ws

-- the results of effects in text order; below a FORALL effect there is none
abbrev mutual
  pub results : EffectTree → List GuardedResult
  results (Change g ds e) = []
  results (Answer e) = record { guards = []; value = e } ∷ []
  results (If c as' bs) = map (result_under c) (results_in as') ++ map (result_under (Not c)) (results_in bs)
  results (Every k t ws) = []

  pub results_in : EffectTrees → List GuardedResult
  results_in none = []
  results_in (more w ws) = results w ++ results_in ws
