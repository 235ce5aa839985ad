use Rattle.std.proofs.Common.{ap, sym, ◌∙◌}
use Rattle.sp_values.specs.declared.value.Op.TheVariants.{Glb}
use Rattle.sp_rules.specs.Terms.{Terms, has_op, node_at}
use Rattle.sp_saturate.proofs.Old.{not_high}
use Rattle.sp_saturate.proofs.gaps.lowers_gap.Goals as goal

pub returns-then-not-is_high_head : goal.returns-then-not-is_high_head
returns-then-not-is_high_head c = λ h _. not_high c.args.trail.now c.args.i
    (ap (λ (ts : Terms). has_op Glb (node_at ts c.args.i).head) (sym c.terms.ensures) ∙ ap (λ a. has_op Glb a) (sym c.head.ensures) ∙ sym c.is_high_head.ensures ∙ c.if-not-is_high_head.true) h
