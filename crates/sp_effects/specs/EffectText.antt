-- The plain tree that an effect of a text stands for.
use Rattle.std.specs.Prelude.{List, [], ◌∷◌, ℕ, suc, ◌+◌, max, length}
use Rattle.sp_text.specs.declared.fault.Span.{Span}
use Rattle.sp_tree.specs.declared.names.FormalTree.{FormalTree}
use Rattle.sp_tree.specs.declared.effect.EffectTree.{EffectTree}
use Rattle.sp_tree.specs.declared.effect.EffectTree.TheOpen.{EffectTree-F}
use Rattle.sp_tree.specs.declared.effect.EffectTree.TheOpen as layer
use Rattle.sp_tree.specs.declared.effect.EffectTree.TheFolds.{fold-EffectTree}
use Rattle.sp_plain.specs.Text.{Text, text}
use Rattle.sp_judge.specs.Translation.{binders}

-- an effect of a text and a list of them
mutual
  pub data EffectText : Type 0 where
    Plain : Text → EffectText
    If : Span → Text → EffectTexts → EffectTexts → EffectText
    Forall : Span → List FormalTree → EffectTexts → EffectText

  pub data EffectTexts : Type 0 where
    none : EffectTexts
    more : EffectText → EffectTexts → EffectTexts

abbrev pub effect_texts_of : List EffectText → EffectTexts
effect_texts_of [] = none
effect_texts_of (w ∷ ws) = more w (effect_texts_of ws)

-- one form, with the text of each part in its place
abbrev pub effect_step : EffectTree-F EffectText → EffectText
effect_step (layer.Plain e) = Plain (text e)
effect_step (layer.If p c as' bs) = If p (text c) (effect_texts_of as') (effect_texts_of bs)
effect_step (layer.Forall p fs ws) = Forall p fs (effect_texts_of ws)

-- the plain tree of an effect of a text
abbrev pub effect_text : EffectTree → EffectText
effect_text = fold-EffectTree EffectText effect_step

-- how many effects and bound variables stand in it, itself included
abbrev mutual
  pub effect_weight : EffectText → ℕ
  effect_weight (Plain e) = 1
  effect_weight (If p c as' bs) = suc (effect_weight_in as' + effect_weight_in bs)
  effect_weight (Forall p fs ws) = suc (length fs + effect_weight_in ws)

  pub effect_weight_in : EffectTexts → ℕ
  effect_weight_in none = 0
  effect_weight_in (more w ws) = effect_weight w + effect_weight_in ws

-- how many variables its effects and expressions bind in one another, before expansion
abbrev mutual
  pub effect_binders : EffectText → ℕ
  effect_binders (Plain e) = binders e
  effect_binders (If p c as' bs) = max (binders c) (max (effect_binders_in as') (effect_binders_in bs))
  effect_binders (Forall p fs ws) = length fs + effect_binders_in ws

  pub effect_binders_in : EffectTexts → ℕ
  effect_binders_in none = 0
  effect_binders_in (more w ws) = max (effect_binders w) (effect_binders_in ws)
