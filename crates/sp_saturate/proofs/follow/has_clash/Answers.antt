use Rattle.std.proofs.Common.{◌≡◌, ◌≤◌, false, ap, sym, ◌∙◌, arith}
use Rattle.sp_rules.specs.Clash.{is_clash}
use Rattle.sp_saturate.specs.Steps.{step_at}
use Rattle.sp_saturate.proofs.Old.{more_old}
use Rattle.sp_saturate.proofs.StepLemmas.{on_at}
use Rattle.sp_saturate.proofs.follow.has_clash.Goals as goal

pub returns-then-clashes-clause-clash : goal.returns-then-clashes-clause-clash
returns-then-clashes-clause-clash c =
    let t = c.args.trail.now in
    let clash = ap (λ f. is_clash t.terms f) (sym c.fact.ensures.fact) ∙ ap (λ ts. is_clash ts c.fact.result) (sym c.terms.ensures) ∙ sym c.clashes.ensures ∙ c.if-clashes.true in
    λ e. ((step_at t.steps c.loop-k.k).fact, on_at t.steps c.loop-k.k (omega arith), clash)

pub loop-k-preserved : goal.loop-k-preserved
loop-k-preserved c =
    let t = c.args.trail.now in
    let calm = ap (λ f. is_clash t.terms f) (sym c.fact.ensures.fact) ∙ ap (λ ts. is_clash ts c.fact.result) (sym c.terms.ensures) ∙ sym c.clashes.ensures ∙ c.if-clashes.false in
    more_old (λ m. c.args.from ≤ m → is_clash t.terms (step_at t.steps m).fact ≡ false) c.loop-k.k c.loop-k.invariant (λ _. calm)
