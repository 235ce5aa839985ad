use Rattle.std.proofs.Common.{◌≡◌, take}
use Rattle.std.specs.List.{All}
use Rattle.sp_text.specs.Violations.{first}
use Rattle.sp_cycles.specs.Order.{cycle_rules}
use Rattle.sp_cycles.specs.Reaches.{IsReach}
use Rattle.sp_cycles.proofs.order.first_cycle.Given as goal

abbrev pub invariant-loop-quoted : goal.invariant-loop-quoted
invariant-loop-quoted l = All (IsReach l.fn.quotes) l.reaches.items × (l.found ≡ first (cycle_rules l.fn.quotes (take l.quoted-index l.quotes)))
