use Rattle.std.proofs.Common.{◌≡◌, ap, ◌∙◌, arith}
use Rattle.sp_rules.specs.Terms.{Terms, node_at}
use Rattle.sp_saturate.proofs.Old.{alike_apart}
use Rattle.sp_saturate.proofs.gaps.alike_gap.Goals as goal

pub returns-then-argument_count : goal.returns-then-argument_count
returns-then-argument_count c =
    let ts = c.args.trail.now.terms in
    let first : c.argument_count.result ≡ (node_at ts c.args.i).count = c.argument_count.ensures.count ∙ ap (λ (t : Terms). (node_at t c.args.i).count) c.terms.ensures in
    let second : c.argument_count-2.result ≡ (node_at ts c.args.j).count = c.argument_count-2.ensures.count ∙ ap (λ (t : Terms). (node_at t c.args.j).count) c.terms-2.ensures in
    alike_apart c.args.trail.now c.args.i c.args.j (λ e. omega (arith, first, second, e))
