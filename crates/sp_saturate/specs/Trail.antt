-- What a trail keeps: its tables hold the facts of its steps.
use Rattle.std.specs.Prelude.{◌≡◌, ℕ, ◌+◌, ◌*◌, ◌≤◌, ◌&&◌, ◌++◌, ◌∷◌, [], Bool, not, cond, is_none, List, length, map, take, slice_get, Some}
use Rattle.sp_bits.specs.Table.{Bits}
use Rattle.sp_pool.specs.Records.{Records}
use Rattle.sp_rules.specs.Terms.{Terms, AreSmall, count}
use Rattle.sp_rules.specs.Table.{lack_of}
use Rattle.sp_rules.specs.Facts.{holds_in}
use Rattle.sp_rules.specs.declared.fact.Fact.{Fact}
use Rattle.sp_rules.specs.declared.fact.Step.{Step}
use Rattle.sp_saturate.specs.Steps.{on, given_on, given, step_of, AreFound}

-- a trail as contracts see it
pub record Found : Type 0 where
  pub terms : Terms
  pub steps : List Step

-- the tables have the facts of the steps, which stand as the records; there is room for as many as there are facts
pub record IsTrail (ts : Terms) (eq le : Bits) (r : Records) : Type 0 where
  pub small : AreSmall ts
  pub eq_size : eq.count ≡ count ts
  pub le_size : le.count ≡ count ts
  pub record_room : r.most_records ≡ 2 * (count ts * count ts)
  pub word_room : r.most_words ≡ 8 * (count ts * count ts)
  pub four : (k : ℕ) (words : List ℕ) → slice_get r.records k ≡ Some words → length words ≡ 4
  pub here : (f : Fact) → holds_in eq le f ≡ on (map step_of r.records) f
  pub counted : length r.records ≡ length eq.pairs + length le.pairs
  pub found : AreFound ts (map step_of r.records)

-- steps that aren't given were added to the first trail
pub record Extends (old new : Found) : Type 0 where
  pub terms_same : new.terms ≡ old.terms
  pub longer : length old.steps ≤ length new.steps
  pub kept : take (length old.steps) new.steps ≡ old.steps
  pub given_same : (f : Fact) → given_on new.steps f ≡ given_on old.steps f

-- the step lacks nothing, and its fact isn't there
abbrev pub is_new : Found → Step → Bool
is_new t s = not (on t.steps s.fact) && is_none (lack_of t.terms (on t.steps) s)

-- the steps with this fact given, if it isn't there
abbrev pub with_given : List Step → Fact → List Step
with_given steps f = cond (on steps f) steps (steps ++ given f ∷ [])
