-- The numbers in effects of a text, which are in range.
use Rattle.sp_typed.specs.Fits.{AreNumbers}
use Rattle.sp_effects.specs.EffectText.{EffectText, EffectTexts, Plain, If, Forall, none, more}

-- the numbers of effects are in range, as those of every text are
abbrev mutual
  pub AreEffectNumbers : EffectText → Type 0
  AreEffectNumbers (Plain e) = AreNumbers e
  AreEffectNumbers (If p c as' bs) = AreNumbers c × AreEffectNumbersIn as' × AreEffectNumbersIn bs
  AreEffectNumbers (Forall p fs ws) = AreEffectNumbersIn ws

  pub AreEffectNumbersIn : EffectTexts → Type 0
  AreEffectNumbersIn none = Unit {0}
  AreEffectNumbersIn (more w ws) = AreEffectNumbers w × AreEffectNumbersIn ws
