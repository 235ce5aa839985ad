use Rattle.std.proofs.Common.{◌+◌, arith, drop, subst, sym}
use Rattle.std.specs.List.{All}
use Rattle.std.proofs.lemmas.List.Elements.{All-get_or, All-push}
use Rattle.std.proofs.lemmas.Result.{err_from_is_err_and}
use Rattle.sp_frame.proofs.Lists.{First, all_done, next_done, next_stops}
use Rattle.sp_hierarchy.specs.Judged.{HasNames, MemberJudged}
use Rattle.sp_hierarchy.specs.Texts.{IsTextName}
use Rattle.sp_hierarchy.proofs.members.judge_members.Goals as goal

pub judge_member-requires : goal.judge_member-requires
judge_member-requires c = subst IsTextName (sym c.interface-item.is) (All-get_or IsTextName c.args.interfaces.now c.loop-interface.interface-index c.interface-item.result (omega arith) c.requires)

pub returns-in_err-member-clause-does : goal.returns-in_err-member-clause-does
returns-in_err-member-clause-does c =
    let p = err_from_is_err_and c.from_residual.result c.from_residual.ensures.1 in
    rw (p.1, p.2) (next_stops MemberJudged _ c.loop-interface.interface-index _ c.interface-item.result _ (omega arith) c.interface-item.is c.loop-interface.invariant.0 c.in_err-member.ensures.does)

pub loop-interface-preserved : goal.loop-interface-preserved
loop-interface-preserved c = (
  subst (First MemberJudged c.args.interfaces.now (drop (c.loop-interface.interface-index + 1) c.args.interfaces.now)) (sym c.in_ok-push.ensures.items)
      (next_done MemberJudged _ c.loop-interface.interface-index _ c.interface-item.result _ (omega arith) c.interface-item.is c.loop-interface.invariant.0 c.in_ok-member.ensures.does),
  subst (All HasNames) (sym c.in_ok-push.ensures.items)
      (All-push HasNames c.loop-interface.members.items c.in_ok-member.member c.loop-interface.invariant.1 c.in_ok-member.ensures.names),
)

pub returns-clause-does : goal.returns-clause-does
returns-clause-does c = rw c.new.ensures (all_done MemberJudged _ c.loop-interface.interface-index _ (omega arith) c.loop-interface.invariant.0)

pub returns-clause-names : goal.returns-clause-names
returns-clause-names c = rw c.new.ensures c.loop-interface.invariant.1
