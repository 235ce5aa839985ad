use Rattle.std.proofs.Common.{◌≡◌, rules}
use Rattle.sp_lattice.proofs.lattice.Lattice.copy.Goals as goal

pub invariant_of-result : goal.invariant_of-result
invariant_of-result c =
    let order : c.in_ok-map_err.field-0.items ≡ c.self.inside.order.items = search rules in
    let lubs : c.in_ok-map_err-2.field-0.items ≡ c.self.inside.lubs.items = search rules in
    let glbs : c.in_ok-map_err-3.field-0.items ≡ c.self.inside.glbs.items = search rules in
    rw (order, lubs, glbs) c.self.invariant
