use Rattle.std.proofs.Common.{sym, ◌∙◌, ap, [], get_or, take}
use Rattle.std.specs.Prelude.{if◌then◌else◌}
use Rattle.sp_text.specs.Violations.{breaks, first}
use Rattle.sp_text.specs.declared.fault.Rule.TheVariants as rule
use Rattle.sp_cycles.specs.Order.{cycle_rules, is_led}
use Rattle.sp_cycles.specs.Reaches.{is_told}
use Rattle.sp_cycles.proofs.Reached.{blank, rules-next, told}
use Rattle.sp_cycles.proofs.order.first_cycle.Goals as goal

pub loop-quoted-preserved : goal.loop-quoted-preserved
loop-quoted-preserved c =
    let qs = c.args.quotes.now in
    let k = c.loop-quoted.quoted-index in
    let q = get_or qs k blank in
    let rs = c.make_known.new.reaches.items in
    let own = if is_led qs q.changed q.read then breaks q.place rule.NewValueCycle else [] in
    let tell = told qs q.changed q.read rs c.in_ok-make_known.ensures.right c.in_ok-make_known.ensures.known in
    let one = c.cycle_rule.ensures ∙ ap (λ rs. first (if is_told rs q.changed q.read then breaks q.place rule.NewValueCycle else [])) c.deref.ensures.value
    ∙ ap (λ b. first (if b then breaks q.place rule.NewValueCycle else [])) tell in (
      c.in_ok-make_known.ensures.right,
      c.earlier-found.ensures (cycle_rules qs (take k qs)) own c.loop-quoted.invariant.1 one ∙ ap first (sym (rules-next qs qs k blank c.loop-quoted-test.true)),
    )
