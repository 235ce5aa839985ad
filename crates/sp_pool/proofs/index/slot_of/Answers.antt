use Rattle.std.proofs.Common.{arith}
use Rattle.sp_pool.proofs.Indexes.{standing_last}
use Rattle.sp_pool.proofs.index.slot_of.Goals as goal

pub unreachable-requires : goal.unreachable-requires
unreachable-requires c =
    let h = standing_last c.args.region.now.records c.args.slots.now c.args.number c.requires.held c.requires.index in
    c.loop-step.invariant h.0 (omega (arith, h.1, c.loop-step-test.false)) h.2
