-- Expressions and effects are those of their trees, so those that have a tree are one.
use Rattle.std.proofs.Common.{◌≡◌, refl, sym, ◌∙◌, ap, subst, List, [], ◌∷◌, map}
use Rattle.sp_core.specs.declared.expr.Expr.{Expr}
use Rattle.sp_core.specs.declared.function.Effect.{Effect, map-Effect, roll-Effect}
use Rattle.sp_core.specs.declared.function.Effect.TheVariants as effect
use Rattle.sp_core.specs.declared.function.Effect.TheOpen.{Effect-F}
use Rattle.sp_core.specs.declared.function.Effect.TheOpen as layer
use Rattle.sp_core.specs.declared.function.Effect.TheFolds.{ind-Effect}
use Rattle.sp_core.specs.Effects.{EffectTree, EffectTrees, Change, Answer, If, Every, none, more, effect_tree, effect_trees_of}
use Rattle.sp_core.specs.Tree.{Tree, tree, trees_of}
use Rattle.sp_core.proofs.TreeLemmas.{effect_tree-Change, effect_tree-Answer, effect_tree-If, effect_tree-Every}
use Rattle.sp_elaborate.specs.Expressions.{expression_of, expressions_of}
use Rattle.sp_elaborate.proofs.Expressions.{own, one_expression}

pub one_tree : (e f : Expr) (t : Tree) → tree e ≡ t → tree f ≡ t → e ≡ f
one_tree e f t h k = one_expression e t h ∙ sym (one_expression f t k)

-- the effect that has a tree, and the effects that have trees
abbrev mutual
  pub effect_of : EffectTree → Effect
  effect_of (Change g ds e) = effect.Change g (expressions_of ds) (expression_of e)
  effect_of (Answer e) = effect.Answer (expression_of e)
  effect_of (If c as' bs) = effect.If (expression_of c) (effects_in as') (effects_in bs)
  effect_of (Every k t ws) = effect.Every k t (effects_in ws)

  pub effects_in : EffectTrees → List Effect
  effects_in none = []
  effects_in (more w ws) = effect_of w ∷ effects_in ws

abbrev IsOwn : Effect → Type 0
IsOwn w = effect_of (effect_tree w) ≡ w

abbrev Own : Type 0
Own = (w : Effect) × IsOwn w

abbrev whole : Own → Effect
whole w = w.0

own_expressions : (ds : List Expr) → expressions_of (trees_of (map tree ds)) ≡ ds
own_expressions [] = refl
own_expressions (d ∷ ds) = ap (λ x. x ∷ expressions_of (trees_of (map tree ds))) (own d) ∙ ap (λ xs. d ∷ xs) (own_expressions ds)

owns : (ws : List Own) → effects_in (effect_trees_of (map effect_tree (map whole ws))) ≡ map whole ws
owns [] = refl
owns (w ∷ ws) = ap (λ x. x ∷ effects_in (effect_trees_of (map effect_tree (map whole ws)))) w.1 ∙ ap (λ xs. w.0 ∷ xs) (owns ws)

own_layer : (y : Effect-F Own) → IsOwn (roll-Effect (map-Effect Own Effect whole y))
own_layer (layer.Change g ds e) =
    subst IsOwn (sym (effect.rolls-Change g ds e)) (ap effect_of (effect_tree-Change g ds e) ∙
    (ap (λ xs. effect.Change g xs (expression_of (tree e))) (own_expressions ds) ∙ ap (effect.Change g ds) (own e)))
own_layer (layer.Answer e) = subst IsOwn (sym (effect.rolls-Answer e)) (ap effect_of (effect_tree-Answer e) ∙ ap effect.Answer (own e))
own_layer (layer.If c as' bs) =
    let thens = map whole as' in
    let elses = map whole bs in
    subst IsOwn (sym (effect.rolls-If c thens elses)) (ap effect_of (effect_tree-If c thens elses) ∙
    (ap (λ x. effect.If x (effects_in (effect_trees_of (map effect_tree thens))) (effects_in (effect_trees_of (map effect_tree elses)))) (own c) ∙
    (ap (λ xs. effect.If c xs (effects_in (effect_trees_of (map effect_tree elses)))) (owns as') ∙ ap (effect.If c thens) (owns bs))))
own_layer (layer.Every k t ws) = subst IsOwn (sym (effect.rolls-Every k t (map whole ws))) (ap effect_of (effect_tree-Every k t (map whole ws)) ∙ ap (effect.Every k t) (owns ws))

own_effect : (w : Effect) → IsOwn w
own_effect = ind-Effect IsOwn (λ x y is. subst (λ z. IsOwn (roll-Effect z)) is (own_layer y))

own_effects : (ws : List Effect) → effects_in (effect_trees_of (map effect_tree ws)) ≡ ws
own_effects [] = refl
own_effects (w ∷ ws) = ap (λ x. x ∷ effects_in (effect_trees_of (map effect_tree ws))) (own_effect w) ∙ ap (λ xs. w ∷ xs) (own_effects ws)

pub one_effects : (ws : List Effect) (ts : EffectTrees) → effect_trees_of (map effect_tree ws) ≡ ts → ws ≡ effects_in ts
one_effects ws ts h = sym (own_effects ws) ∙ ap effects_in h
