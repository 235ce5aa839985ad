use Rattle.std.proofs.Common.{drop}
use Rattle.std.specs.List.{All}
use Rattle.sp_frame.proofs.Lists.{First}
use Rattle.sp_hierarchy.specs.Judged.{HasNames, MemberJudged}
use Rattle.sp_hierarchy.proofs.members.judge_members.Given as goal

-- the interfaces so far are judged, and each has its names
abbrev pub invariant-loop-interface : goal.invariant-loop-interface
invariant-loop-interface l = First MemberJudged l.interfaces (drop l.interface-index l.interfaces) l.members.items × All HasNames l.members.items
