use Rattle.std.proofs.Common.{◌+◌, Err, Ok, arith, drop, subst, sym}
use Rattle.std.proofs.lemmas.Result.{err_from_is_err_and}
use Rattle.sp_frame.specs.Endings.{Printing}
use Rattle.sp_frame.specs.Uncertified.{spells}
use Rattle.sp_frame.proofs.Lists.{First, all_done, next_done, next_stops}
use Rattle.sp_hierarchy_command.specs.Hierarchy.{MemberAnswered}
use Rattle.sp_hierarchy_command.proofs.Printing.{reported}
use Rattle.sp_hierarchy_command.proofs.hierarchy.answer_members.Goals as goal

pub returns-in_err-report : goal.returns-in_err-report
returns-in_err-report c =
    let p = err_from_is_err_and c.from_residual.result c.from_residual.ensures.1 in
    rw (p.1, p.2)
    (reported MemberAnswered c.args.members.now (Err _)
    (next_stops (λ m. Printing spells (MemberAnswered m)) _ c.loop-member.member-index _ c.member-item.result _ (omega arith) c.member-item.is c.loop-member.invariant c.in_err-report.ensures))

pub loop-member-preserved : goal.loop-member-preserved
loop-member-preserved c =
    subst (First (λ m. Printing spells (MemberAnswered m)) c.args.members.now (drop (c.loop-member.member-index + 1) c.args.members.now)) (sym c.in_ok-push.ensures.items)
    (next_done (λ m. Printing spells (MemberAnswered m)) _ c.loop-member.member-index _ c.member-item.result _ (omega arith) c.member-item.is c.loop-member.invariant c.in_ok-report.ensures)

pub returns : goal.returns
returns c = rw c.new.ensures (reported MemberAnswered c.args.members.now (Ok _) (all_done (λ m. Printing spells (MemberAnswered m)) _ c.loop-member.member-index _ (omega arith) c.loop-member.invariant))
