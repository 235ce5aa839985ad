use Rattle.sp_hierarchy.proofs.Named.{names_of}
use Rattle.sp_hierarchy.proofs.members.judge_member.Goals as goal

pub returns-clause-names : goal.returns-clause-names
returns-clause-names c = names_of _ c.args.interface.now.system c.in_ok-elaborated.elaborated c.in_ok-elaborated.ensures
