use Rattle.std.proofs.Common.{arith}
use Rattle.sp_pool.proofs.NodeLaws.{two, pool_less}
use Rattle.sp_pool.proofs.plain.PlainPool.release.Goals as goal

pub invariant_of-self : goal.invariant_of-self
invariant_of-self c =
    let h = c.self.invariant in
    (rw c.truncate.ensures.items (pool_less c.self.inside.nodes.items h.0 (two h.0) c.args.m.0 c.requires.two), omega (arith, h.1, c.truncate.ensures.capacity))
