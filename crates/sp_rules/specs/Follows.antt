-- The least set of facts that holds the given ones and is closed under the rules.
use Rattle.std.specs.Prelude.{◌≡◌, ℕ, ◌<◌, ◌⊎◌, Bool, true, cond}
use Rattle.sp_rules.specs.Terms.{Terms, node_at, arg}
use Rattle.sp_rules.specs.Table.{are_terms, is_formed, needs}
use Rattle.sp_rules.specs.declared.fact.Fact.{Fact}
use Rattle.sp_rules.specs.declared.fact.Fact.TheVariants.{Eq}
use Rattle.sp_rules.specs.declared.fact.Step.{Step}
use Rattle.sp_rules.specs.declared.fact.Needs.{Needs}
use Rattle.sp_rules.specs.declared.fact.Needs.TheVariants.{Nothing, One, Both, Either, Arguments}

-- the fact is one of the needs, with one side of an `or`
abbrev pub IsPremise : Terms → Needs → Bool → Fact → Type 0
IsPremise ts Nothing first f = ⊥
IsPremise ts (One a) first f = f ≡ a
IsPremise ts (Both a b) first f = (f ≡ a) ⊎ (f ≡ b)
IsPremise ts (Either a b) first f = f ≡ cond first a b
IsPremise ts (Arguments i j) first f = (k : ℕ) × (k < (node_at ts i).count) × (f ≡ Eq (arg ts i k) (arg ts j k))

-- the fact is given, or it is that of a step that has its rule's form and whose premises follow
pub data Follows (ts : Terms) (given : Fact → Bool) : Fact → Type 0 where
  start : {f : Fact} → given f ≡ true → Follows ts given f
  step : (s : Step) (first : Bool) → are_terms ts s ≡ true → is_formed ts s ≡ true
      → ((f : Fact) → IsPremise ts (needs ts s) first f → Follows ts given f)
      → Follows ts given s.fact
