use Rattle.sp_core.specs.States.{entry_of}
use Rattle.sp_stepping.proofs.MomentLemmas.{changed_within, few_changes}
use Rattle.sp_stepping.proofs.stepping.operate.Goals as goal

pub ranks-requires : goal.ranks-requires
ranks-requires c = few_changes c.args.spec.now c.args.inst.now c.args.state.now.entries c.args.room c.args.i.now c.args.effects.now c.requires

pub returns-clause-changed : goal.returns-clause-changed
returns-clause-changed c = changed_within c.new.result _ c.new.ensures.value c.in_ok-made.made c.in_ok-made.ensures.made (entry_of c.write_all.new.state.entries) c.in_ok-write_all.ensures.written
