use Rattle.sp_mapping.proofs.Cores.{at_ends}
use Rattle.sp_mapping.proofs.mapping.elaborate_named.Goals as goal

pub returns : goal.returns
returns c =
    at_ends c.args.upper.now c.args.lower.now c.args.scopes.now c.args.m.now c.elaborate_between.result c.lattice-lattice.result.now c.bottom-bottom.result c.top-top.result c.lattice-lattice.ensures.value
    c.bottom-bottom.ensures.value c.top-top.ensures.value c.elaborate_between.ensures
