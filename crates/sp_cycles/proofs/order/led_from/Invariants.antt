use Rattle.sp_cycles.proofs.Reached.{IsFound}
use Rattle.sp_cycles.proofs.order.led_from.Given as goal

abbrev pub invariant-loop-done : goal.invariant-loop-done
invariant-loop-done l = IsFound l.fn.quotes l.fn.from l.done l.all.items
