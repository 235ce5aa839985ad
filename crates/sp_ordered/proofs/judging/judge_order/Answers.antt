use Rattle.std.proofs.Common.{◌≤◌, subst, length}
use Rattle.sp_order.specs.Orders.{count_of}
use Rattle.sp_ordered.proofs.Counts.{levels_there}
use Rattle.sp_ordered.proofs.Told.{told_of}
use Rattle.sp_ordered.proofs.judging.judge_order.Goals as goal

pub judge_levels-requires : goal.judge_levels-requires
judge_levels-requires c =
    let s = c.in-Ok.scopes in
    let some : 1 ≤ count_of (length c.levels.result.now) c.order.result.now = c.has_some.ensures.some c.if-has_some.true in
    let named : 1 ≤ count_of (length s.levels) c.order.result.now = subst (λ z. 1 ≤ count_of (length z) c.order.result.now) c.levels.ensures some in
    levels_there c.args.interface.now c.in_ok-own.own s c.found_are_lent.ensures c.lent_are_found.ensures c.in_ok-own.ensures c.in-Ok.ensures.0 c.in-Ok.ensures.1
    (subst (λ z. 1 ≤ count_of (length s.levels) z) c.order.ensures named)

pub returns-then-has_some : goal.returns-then-has_some
returns-then-has_some c =
    told_of c.args.interface.now c.in_ok-own.own c.in-Ok.scopes c.judge_levels.result c.in_ok-own.ensures c.in-Ok.ensures.0 c.in-Ok.ensures.1 c.judge_levels.ensures
