-- The steps of a trail up to its first clash.
use Rattle.std.specs.Prelude.{◌≡◌, ◌≤◌, ◌⊎◌, true, List, length, Option, Some, None, cond}
use Rattle.sp_rules.specs.Terms.{Terms}
use Rattle.sp_rules.specs.declared.fact.Fact.{Fact}
use Rattle.sp_rules.specs.declared.fact.Fact.TheVariants.{Eq, Le}
use Rattle.sp_rules.specs.declared.fact.Step.{Step}
use Rattle.sp_saturate.specs.Steps.{on, given_on}
use Rattle.sp_saturate.specs.Trail.{Found}
use Rattle.sp_rules.specs.Clash.{is_clash}
use Rattle.sp_saturate.specs.Accepted.{AreAccepted, EndInClash}

-- the step by which a given equality that is a clash the other way round gives that clash
abbrev pub turned : Terms → Fact → Option Step
turned ts (Eq i j) = cond (is_clash ts (Eq j i)) (Some (record { fact = Eq j i; rule = 2; p = 0; q = 0 })) None
turned ts (Le i j) = None

-- the steps of a trail that aren't given, up to the first clash; a given clash is turned round
pub record AreFront (t : Found) (steps : List Step) : Type 0 where
  pub accepted : AreAccepted t.terms (given_on t.steps) steps
  pub few : length steps ≤ length t.steps
  pub ends : (f : Fact) → on t.steps f ≡ true → is_clash t.terms f ≡ true → EndInClash t.terms steps ⊎ ((given_on t.steps f ≡ true) × (turned t.terms f ≡ None))
