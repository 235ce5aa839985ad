use Rattle.std.proofs.Common.{◌<◌, false, length, get_or, sym, ap, ◌∙◌, arith}
use Rattle.std.proofs.lemmas.List.{get_or_read}
use Rattle.sp_lattice.specs.Order.{Order, is_below}
use Rattle.sp_lattice.proofs.OrderLaws.{below_entry}
use Rattle.sp_lattice.proofs.lattice.Lattice.le.Goals as goal

pub returns-clause-value : goal.returns-clause-value
returns-clause-value c =
    let s = c.self.inside in
    let o : Order = record { count = s.count; table = s.order.items } in
    let low : c.args.x < s.count = rw (← c.self.view_is) at c.requires.x in
    let high : c.args.y < s.count = rw (← c.self.view_is) at c.requires.y in
    let within : c.place.result < length s.order.items = omega (arith, c.self.invariant.lattice.square, c.place.ensures.within) in
    get_or_read s.order.items c.place.result c.index.result.now within c.index.ensures false
    ∙ ap (λ k. get_or s.order.items k false) c.place.ensures.place
    ∙ sym (below_entry o c.args.x c.args.y low high)
    ∙ ap (λ v. is_below v c.args.x c.args.y) c.self.view_is
