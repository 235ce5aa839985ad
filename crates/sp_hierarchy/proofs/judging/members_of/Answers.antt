use Rattle.std.proofs.Common.{subst, sym}
use Rattle.std.specs.List.{All}
use Rattle.sp_hierarchy.specs.Texts.{IsTextName}
use Rattle.sp_hierarchy.proofs.judging.members_of.Goals as goal

pub judge_members-requires : goal.judge_members-requires
judge_members-requires c = subst (All IsTextName) (sym c.items.ensures) c.requires
