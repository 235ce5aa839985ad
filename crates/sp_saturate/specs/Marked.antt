-- What putting a fact into two tables leaves, and taking it out.
use Rattle.std.specs.Prelude.{◌≡◌, ◌+◌, ◌||◌, ◌&&◌, not, length}
use Rattle.sp_bits.specs.Table.{Bits}
use Rattle.sp_rules.specs.Facts.{holds_in, is_fact}
use Rattle.sp_rules.specs.declared.fact.Fact.{Fact}

-- the fact is put in, and all others stay
pub record IsMarked (fact : Fact) (eq le eqn len : Bits) : Type 0 where
  pub eq_size : eqn.count ≡ eq.count
  pub le_size : len.count ≡ le.count
  pub has : (f : Fact) → holds_in eqn len f ≡ (is_fact fact f || holds_in eq le f)
  pub one_more : length eqn.pairs + length len.pairs ≡ length eq.pairs + length le.pairs + 1

-- the fact is taken out, and all others stay
pub record IsUnmarked (fact : Fact) (eq le eqn len : Bits) : Type 0 where
  pub eq_size : eqn.count ≡ eq.count
  pub le_size : len.count ≡ le.count
  pub has : (f : Fact) → holds_in eqn len f ≡ (not (is_fact fact f) && holds_in eq le f)
  pub one_less : length eq.pairs + length le.pairs ≡ length eqn.pairs + length len.pairs + 1
