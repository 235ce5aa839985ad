use Rattle.sp_lattice.proofs.Uppers.{lub_tested}
use Rattle.sp_lattice.proofs.table.least_upper.Goals as goal

pub returns : goal.returns
returns c =
    let n = c.args.count in
    let table = c.args.table.now in
    let z = c.in_ok-bound.bound in
    rw c.then_some.ensures (lub_tested n table c.requires.partial c.args.x c.args.y z c.requires.x c.requires.y c.in_ok-bound.ensures.upper.0.high
    c.is_below_uppers.result c.is_below_uppers.ensures c.in_ok-bound.ensures.upper c.in_ok-bound.ensures.only)
