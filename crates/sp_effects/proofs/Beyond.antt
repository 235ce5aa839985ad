-- The first place beyond so many.
use Rattle.std.proofs.Common.{◌≡◌, refl, ap, ℕ, zero, suc, List, [], ◌∷◌, Some, None}
use Rattle.std.specs.Prelude.{slice_get}
use Rattle.sp_text.specs.declared.fault.Quantity.TheVariants as quantity
use Rattle.sp_text.specs.declared.fault.Span.{Span}
use Rattle.sp_text.specs.Violations.{exceeds, first}
use Rattle.sp_effects.specs.EffectRules.{beyond}

pub beyond_some : (n : ℕ) (ps : List Span) (p : Span) → slice_get ps n ≡ Some p → first (beyond n ps) ≡ first (exceeds p quantity.Changes)
beyond_some n [] p e = cc
beyond_some zero (q ∷ ps) p e = let same : q ≡ p = cc in ap (λ x. first (exceeds x quantity.Changes)) same
beyond_some (suc n) (q ∷ ps) p e = beyond_some n ps p e

pub beyond_none : (n : ℕ) (ps : List Span) → slice_get ps n ≡ None → first (beyond n ps) ≡ None
beyond_none n [] e = refl
beyond_none zero (q ∷ ps) e = cc
beyond_none (suc n) (q ∷ ps) e = beyond_none n ps e
