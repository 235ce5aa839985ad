use Rattle.sp_unwinding.proofs.Accepting.{accepted}
use Rattle.sp_unwinding.proofs.accepted.accept.Goals as goal

pub invariant_of-result : goal.invariant_of-result
invariant_of-result c = accepted c.args.spec c.functions.ensures.well_formed c.args.fs.now c.requires.listed c.requires.closed
