-- The core effects that effects of a text stand for.
use Rattle.std.specs.Prelude.{ℕ, suc, List, [], ◌∷◌, length, map, Option}
use Rattle.sp_values.specs.declared.value.Ty.{Ty}
use Rattle.sp_values.specs.declared.value.Value.TheVariants as value
use Rattle.sp_tree.specs.declared.names.FormalTree.{FormalTree}
use Rattle.sp_core.specs.Tree as core
use Rattle.sp_core.specs.Effects.{EffectTree, EffectTrees}
use Rattle.sp_core.specs.Effects as effect
use Rattle.sp_scopes.specs.declared.heads.Local.{Local}
use Rattle.sp_judge.specs.Names.{type_of}
use Rattle.sp_judge.specs.Translation.{translation, translations}
use Rattle.sp_judge.specs.Visible.{Visible}
use Rattle.sp_effects.specs.EffectText.{EffectText, EffectTexts, Plain, If, Forall, none, more}
use Rattle.sp_effects.specs.Forms.{Form, Change, Answer, Neither, form}
use Rattle.sp_effects.specs.EffectRules.{with_formals}

abbrev pub joined_effects : EffectTrees → EffectTrees → EffectTrees
joined_effects effect.none vs = vs
joined_effects (effect.more w ws) vs = effect.more w (joined_effects ws vs)

abbrev pub one_effect : EffectTree → EffectTrees
one_effect w = effect.more w effect.none

-- a variable for each type around effects, the first with number k
abbrev pub nested : ℕ → List Ty → EffectTrees → EffectTrees
nested k [] ws = ws
nested k (t ∷ ts) ws = one_effect (effect.Every k t (nested (suc k) ts ws))

-- what stands for an effect that is neither, which breaks a rule
abbrev pub no_effect : EffectTree
no_effect = effect.Answer (core.Const value.Unknown)

abbrev pub form_core : Visible → List Local → Form → EffectTree
form_core s l (Change q f t ds v) = effect.Change t.fun (translations s l ds) (translation s l v)
form_core s l (Answer t v) = effect.Answer (translation s l v)
form_core s l Neither = no_effect

abbrev pub types_named : Visible → List FormalTree → List Ty
types_named s fs = map (λ f. type_of s f.ty) fs

-- an effect stands for a list of effects: a FORALL of two variables for one in another
abbrev mutual
  pub effect_core : Visible → Option Local → List Local → EffectText → EffectTrees
  effect_core s r l (Plain e) = one_effect (form_core s l (form s l r e))
  effect_core s r l (If p c as' bs) = one_effect (effect.If (translation s l c) (effects_core s r l as') (effects_core s r l bs))
  effect_core s r l (Forall p fs ws) = nested (length l) (types_named s fs) (effects_core s r (with_formals s l fs) ws)

  pub effects_core : Visible → Option Local → List Local → EffectTexts → EffectTrees
  effects_core s r l none = effect.none
  effects_core s r l (more w ws) = joined_effects (effect_core s r l w) (effects_core s r l ws)
