-- What the order of new values is. Each law is proved at the function of its name.
use Rattle.std.specs.Prelude.{◌≡◌, ◌↔◌, ℕ, suc, true, List, []}
use Rattle.sp_cycles.specs.Order.{Leads, IsLed, is_led, cycle_rules}
use Rattle.sp_cycles.specs.declared.order.Quoted.{Quoted}

-- `is_led` tells whether there is a chain, of any length
abbrev pub ChainLaw : Type 0
ChainLaw = (qs : List Quoted) (h g : ℕ) → (is_led qs h g ≡ true) ↔ IsLed qs h g

-- no quoted reference closes a cycle exactly where no chain leads from a function back to itself
abbrev pub CycleLaw : Type 0
CycleLaw = (qs : List Quoted) → (cycle_rules qs qs ≡ []) ↔ ((n g : ℕ) → Leads qs (suc n) g g → ⊥)
