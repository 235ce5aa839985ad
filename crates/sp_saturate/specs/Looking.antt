-- What looking through numbers tells.
use Rattle.std.specs.Prelude.{◌≡◌, ℕ, ◌<◌, ◌&&◌, Bool, true, false, Option, MatchOption}
use Rattle.sp_rules.specs.declared.fact.Fact.{Fact}
use Rattle.sp_saturate.specs.Steps.{on}
use Rattle.sp_saturate.specs.Trail.{Found}
use Rattle.sp_rules.specs.Clash.{is_clash}

abbrev pub is_clash_on : Found → Fact → Bool
is_clash_on t f = on t.steps f && is_clash t.terms f

-- none below n passes, or the first that does
abbrev pub IsFirstIn : (ℕ → Bool) → ℕ → Option ℕ → Type 0
IsFirstIn p n o = MatchOption o ((j : ℕ) → j < n → p j ≡ false) (λ k. record { passes : p k ≡ true; first : (j : ℕ) → j < k → p j ≡ false })

-- the fact is one of these
abbrev pub IsOn : (Fact → Bool) → Fact → Type 0
IsOn h f = h f ≡ true

-- one of the facts of a trail is a clash
abbrev pub HasClashOn : Found → Type 0
HasClashOn t = (f : Fact) × (on t.steps f ≡ true) × (is_clash t.terms f ≡ true)

-- none of them is
abbrev pub IsCalmOn : Found → Type 0
IsCalmOn t = (f : Fact) → on t.steps f ≡ true → is_clash t.terms f ≡ false
