use Rattle.sp_stepping.proofs.MomentLemmas.{few_changes}
use Rattle.sp_stepping.proofs.stepping.operate_with_result.Goals as goal

pub ranks-requires : goal.ranks-requires
ranks-requires c = few_changes c.args.spec.now c.args.inst.now c.args.state.now.entries c.args.room c.args.i.now c.args.effects.now c.requires.call
