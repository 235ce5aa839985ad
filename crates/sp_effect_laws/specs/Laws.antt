-- What effects of a text are that break no rule. Each law is proved at the function of its name.
use Rattle.std.specs.Prelude.{◌≡◌, List, [], Option, Some, None, IsTrue}
use Rattle.sp_text.specs.declared.fault.Span.{Span}
use Rattle.sp_values.specs.declared.value.Ty.{Ty}
use Rattle.sp_core.specs.Typing.{Signature, is_type}
use Rattle.sp_core.specs.WellFormed.{AreEffectsOf, IsOperation, IsBoth}
use Rattle.sp_scopes.specs.declared.heads.Local.{Local}
use Rattle.sp_judge.specs.Visible.{Visible}
use Rattle.sp_typed.specs.Fits.{types, AreTypes, IsAsked, IsScopeOf, HoldNoNew}
use Rattle.sp_effects.specs.EffectText.{EffectTexts}
use Rattle.sp_effects.specs.EffectCore.{effects_core}
use Rattle.sp_effects.specs.EffectRules.{body_broken}
use Rattle.sp_effect_laws.specs.Numbers.{AreEffectNumbersIn}

-- the type of a result
abbrev pub result_type : Option Local → Option Ty
result_type None = None
result_type (Some r) = Some r.ty

-- Effects that break nothing are well typed over the formals, with few bound variables and changes, each bound variable
-- alone as exactly one argument of its targets, and no cycle of new values.
abbrev pub EffectsLaw : Type 0
EffectsLaw = (sg : Signature) (s : Visible) → IsScopeOf sg s → HoldNoNew s → (p : Span) (l : List Local) (r : Option Local) (ws : EffectTexts) → AreTypes sg l →
    IsAsked sg (result_type r) → AreEffectNumbersIn ws → body_broken s p l r ws ≡ [] → AreEffectsOf sg (result_type r) (types l) (effects_core s r l ws)

-- those of an O-function, which have no result
abbrev pub OperationLaw : Type 0
OperationLaw = (sg : Signature) (s : Visible) → IsScopeOf sg s → HoldNoNew s → (p : Span) (l : List Local) (ws : EffectTexts) → AreTypes sg l →
    AreEffectNumbersIn ws → body_broken s p l None ws ≡ [] → IsOperation sg (types l) (effects_core s None l ws)

-- those of an OV-function, which have exactly one on each path
abbrev pub BothLaw : Type 0
BothLaw = (sg : Signature) (s : Visible) → IsScopeOf sg s → HoldNoNew s → (p : Span) (l : List Local) (r : Local) (ws : EffectTexts) → AreTypes sg l →
    IsTrue (is_type sg r.ty) → AreEffectNumbersIn ws → body_broken s p l (Some r) ws ≡ [] → IsBoth sg (types l) r.ty (effects_core s (Some r) l ws)
