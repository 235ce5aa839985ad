use Rattle.std.proofs.Common.{drop}
use Rattle.sp_frame.specs.Endings.{Printing}
use Rattle.sp_frame.specs.Uncertified.{spells}
use Rattle.sp_frame.proofs.Lists.{First}
use Rattle.sp_hierarchy_command.specs.Hierarchy.{MemberAnswered}
use Rattle.sp_hierarchy_command.proofs.hierarchy.answer_members.Given as goal

-- the interfaces so far are answered
abbrev pub invariant-loop-member : goal.invariant-loop-member
invariant-loop-member l = First (λ m. Printing spells (MemberAnswered m)) l.members (drop l.member-index l.members) l.reports.items
