-- Facts put in one after another, of which each was new, from a place of the trail on; and the room that is left for more.
use Rattle.std.specs.Prelude.{◌≡◌, ◌||◌, ℕ, zero, suc, ◌+◌, ◌-◌, ◌*◌, ◌<◌, ◌≤◌, not, Bool, true, false, List, length, slice_index_or, IsTrue}
use Rattle.sp_rules.specs.Table.{in_range}
use Rattle.sp_rules.specs.declared.fact.Fact.{Fact}
use Rattle.sp_rules.specs.declared.fact.Fact.TheVariants.{Eq}
use Rattle.sp_cert.specs.Checks.{Facts}
use Rattle.sp_rules.specs.Facts.{holds_in, is_fact, with_fact}
use Rattle.sp_bits.specs.Table.{Bits}

-- how many pairs a table may still take
abbrev pub free : Bits → ℕ
free t = t.count * t.count - length t.pairs

-- the fact was put in, and all others stay
pub record Added (fact : Fact) (eq le eqn len : Bits) (added : Bool) : Type 0 where
  pub sizes : (eqn.count ≡ eq.count) × (len.count ≡ le.count)
  pub has : (f : Fact) → holds_in eqn len f ≡ (is_fact fact f || holds_in eq le f)
  pub new : added ≡ not (holds_in eq le fact)
  pub same : added ≡ false → (eqn ≡ eq) × (len ≡ le)
  pub fewer : free eqn + free len ≤ free eq + free le
  pub less : added ≡ true → free eqn + free len < free eq + free le

abbrev pub fact_at : List Fact → ℕ → Fact
fact_at trail k = slice_index_or trail k (Eq 0 0)

-- the set with so many facts of the trail
abbrev pub laid : List Fact → ℕ → ℕ → Facts → Facts
laid trail from zero h = h
laid trail from (suc k) h = with_fact (fact_at trail (from + k)) (laid trail from k h)

-- h is h0 with the facts of the trail from one place up to another, of which each was new when it came
pub record Trailed (h0 : Facts) (trail : List Fact) (from to : ℕ) (h : Facts) : Type 0 where
  pub count : ℕ
  pub sum : from + count ≡ to
  pub now : (f : Fact) → h f ≡ laid trail from count h0 f
  pub fresh : (i : ℕ) → i < count → laid trail from i h0 (fact_at trail (from + i)) ≡ false

abbrev pub EachWithin : ℕ → List Fact → ℕ → Type 0
EachWithin n trail len = (k : ℕ) → k < len → IsTrue (in_range n (fact_at trail k))

-- the trail is as it was below a place
abbrev pub Kept : List Fact → List Fact → ℕ → Type 0
Kept old new len = (k : ℕ) → k < len → fact_at new k ≡ fact_at old k
