-- What the listing of changes asks of effects and of their parts, for its callers.
use Rattle.std.specs.Prelude.{ℕ, ◌+◌, ◌≤◌, IsTrue, List, ◌∷◌, [], ◌++◌, length, Option}
use Rattle.sp_text.specs.declared.limits.TheConstants.{MOST_ARGUMENTS, MOST_BOUND_VARIABLES, MOST_CHANGES}
use Rattle.sp_values.specs.declared.value.Ty.{Ty}
use Rattle.sp_values.specs.declared.value.Ty.TheVariants as ty
use Rattle.sp_values.specs.declared.value.Value.{Value}
use Rattle.sp_values.specs.Domains.{are_values}
use Rattle.sp_core.specs.Effects.{EffectTree, EffectTrees, changes, changes_in}
use Rattle.sp_core.specs.Instances.{filling_of, machine_of}
use Rattle.sp_core.specs.Machine.{Machine}
use Rattle.sp_core.specs.Measures.{bound_variables, bound_variables_in}
use Rattle.sp_core.specs.Parts.{signature}
use Rattle.sp_core.specs.Tree.{Tree, Trees}
use Rattle.sp_core.specs.Typing.{is_finite}
use Rattle.sp_core.specs.WellFormed.{AreEffects, AreNewExpressions, IsEffect, IsExpression, IsNewExpression}
use Rattle.sp_eval.specs.Settings.{Setting, sizes}

-- the machine of a specification with an instance
abbrev pub machine : Setting → Machine
machine s = machine_of s.parts (filling_of s.instance)

-- values of the types xs, no more than arguments and bound variables may be
pub record IsEnvironment (s : Setting) (x : List Value) (xs : List Ty) (bound : ℕ) : Type 0 where
  pub values : IsTrue (are_values (sizes s) xs x)
  pub room : length x + bound ≤ MOST_ARGUMENTS + MOST_BOUND_VARIABLES

-- a condition in an environment
pub record IsConditionAt (s : Setting) (x : List Value) (e : Tree) (xs : List Ty) : Type 0 where
  pub environment : IsEnvironment s x xs 0
  pub expression : IsExpression (signature s.parts) xs e ty.Boolean

abbrev pub IsConditionIn : Setting → List Value → Tree → Type 0
IsConditionIn s x e = (xs : List Ty) × IsConditionAt s x e xs

-- the value of a change or result in an environment
pub record IsNewValueAt (s : Setting) (x : List Value) (e : Tree) (xs : List Ty) (t : Ty) : Type 0 where
  pub environment : IsEnvironment s x xs 0
  pub expression : IsNewExpression (signature s.parts) xs e t

abbrev pub IsNewValueIn : Setting → List Value → Tree → Type 0
IsNewValueIn s x e = (xs : List Ty) × (t : Ty) × IsNewValueAt s x e xs t

-- the arguments of a change in an environment
pub record AreArgumentsAt (s : Setting) (x : List Value) (ds : Trees) (xs ts : List Ty) : Type 0 where
  pub environment : IsEnvironment s x xs 0
  pub expressions : AreNewExpressions (signature s.parts) xs ds ts
  pub few : length ts ≤ MOST_ARGUMENTS

abbrev pub AreArgumentsIn : Setting → List Value → Trees → Type 0
AreArgumentsIn s x ds = (xs : List Ty) × (ts : List Ty) × AreArgumentsAt s x ds xs ts

-- an effect in an environment
pub record IsEffectAt (s : Setting) (x : List Value) (w : EffectTree) (r : Option Ty) (xs : List Ty) : Type 0 where
  pub environment : IsEnvironment s x xs (bound_variables w)
  pub effect : IsEffect (signature s.parts) r xs w
  pub few : length (changes w) ≤ MOST_CHANGES

abbrev pub IsEffectIn : Setting → List Value → EffectTree → Type 0
IsEffectIn s x w = (r : Option Ty) × (xs : List Ty) × IsEffectAt s x w r xs

-- effects in an environment
pub record AreEffectsAt (s : Setting) (x : List Value) (ws : EffectTrees) (r : Option Ty) (xs : List Ty) : Type 0 where
  pub environment : IsEnvironment s x xs (bound_variables_in ws)
  pub effects : AreEffects (signature s.parts) r xs ws
  pub few : length (changes_in ws) ≤ MOST_CHANGES

abbrev pub AreEffectsIn : Setting → List Value → EffectTrees → Type 0
AreEffectsIn s x ws = (r : Option Ty) × (xs : List Ty) × AreEffectsAt s x ws r xs

-- effects below a FORALL effect over type t
pub record AreEffectsBelow (s : Setting) (x : List Value) (t : Ty) (ws : EffectTrees) (r : Option Ty) (xs : List Ty) : Type 0 where
  pub environment : IsEnvironment s x xs (bound_variables_in ws + 1)
  pub finite : IsTrue (is_finite (signature s.parts) t)
  pub effects : AreEffects (signature s.parts) r (xs ++ t ∷ []) ws
  pub few : length (changes_in ws) ≤ MOST_CHANGES

abbrev pub IsBodyIn : Setting → List Value → Ty → EffectTrees → Type 0
IsBodyIn s x t ws = (r : Option Ty) × (xs : List Ty) × AreEffectsBelow s x t ws r xs
