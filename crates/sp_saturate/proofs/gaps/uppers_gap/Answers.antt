use Rattle.std.proofs.Common.{ap, sym, ◌∙◌}
use Rattle.sp_rules.specs.Terms.{Terms, is_level, node_at}
use Rattle.sp_saturate.specs.Gaps.{UpperIsOld, is_low_head}
use Rattle.sp_saturate.proofs.Old.{more_old, not_low}
use Rattle.sp_saturate.proofs.gaps.uppers_gap.Goals as goal

pub returns-then-not-is_low_head : goal.returns-then-not-is_low_head
returns-then-not-is_low_head c = λ j _. not_low c.args.trail.now c.args.i
    (ap (λ (ts : Terms). is_level ts c.args.i) (sym c.terms.ensures) ∙ sym c.is_level.ensures ∙ c.if-not-is_level.true)
    (ap (λ (ts : Terms). is_low_head (node_at ts c.args.i).head) (sym c.terms-then-not-is_level.ensures) ∙ ap (λ a. is_low_head a) (sym c.head.ensures) ∙ sym c.is_low_head.ensures ∙ c.if-not-is_low_head.true) j

pub loop-j-preserved : goal.loop-j-preserved
loop-j-preserved c = more_old (UpperIsOld c.args.trail.now c.args.i) c.loop-j.j c.loop-j.invariant c.in_default.ensures
