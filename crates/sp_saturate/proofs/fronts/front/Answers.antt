use Rattle.std.proofs.Common.{◌≡◌, ◌+◌, ◌++◌, ◌∷◌, [], true, false, eqb, length, sym, ap, ◌∙◌, subst, arith}
use Rattle.std.proofs.lemmas.Bool.Decides.{nat_tests}
use Rattle.sp_rules.specs.declared.fact.Step.{Step}
use Rattle.sp_saturate.specs.Steps.{step_at}
use Rattle.sp_saturate.specs.Front.{AreFront, turned}
use Rattle.sp_saturate.proofs.Parts.{IsPart, part_none, part_given, part_more, front_here, front_turned, front_whole}
use Rattle.sp_saturate.proofs.fronts.front.Goals as goal
use Rattle.sp_rules.specs.Clash.{is_clash}

pub loop-k-init : goal.loop-k-init
loop-k-init c = subst (IsPart c.args.trail.now 0) (sym c.new-steps.ensures.items) (part_none c.args.trail.now)

pub returns-then-clashes : goal.returns-then-clashes
returns-then-clashes c =
    let t = c.args.trail.now in
    let s : c.step-step.result ≡ step_at t.steps c.loop-k.k = c.step-step.ensures in
    let kept : eqb c.step-step.result.rule 0 ≡ false = grind (arith, nat_tests) in
    let clash : is_clash t.terms (step_at t.steps c.loop-k.k).fact ≡ true =
    ap (λ (x : Step). is_clash t.terms x.fact) (sym s) ∙ ap (λ ts. is_clash ts c.step-step.result.fact) (sym c.terms-in-loop-k.ensures) ∙ sym c.clashes.ensures ∙ c.if-clashes.true in
    subst (AreFront t) (sym (c.in_ok-push-2.ensures.items ∙ ap (λ x. c.loop-k.steps.items ++ x ∷ []) s))
    (front_here t c.tell_found.ensures c.loop-k.k (omega arith) c.loop-k.steps.items c.loop-k.invariant (ap (λ (x : Step). eqb x.rule 0) (sym s) ∙ kept) clash)

pub loop-k-preserved : goal.loop-k-preserved
loop-k-preserved c =
    let t = c.args.trail.now in
    let s : c.step-step.result ≡ step_at t.steps c.loop-k.k = c.step-step.ensures in
    let kept : eqb c.step-step.result.rule 0 ≡ false = grind (arith, nat_tests) in
    let calm : is_clash t.terms (step_at t.steps c.loop-k.k).fact ≡ false =
    ap (λ (x : Step). is_clash t.terms x.fact) (sym s) ∙ ap (λ ts. is_clash ts c.step-step.result.fact) (sym c.terms-in-loop-k.ensures) ∙ sym c.clashes.ensures ∙ c.if-clashes.false in
    subst (IsPart t (c.loop-k.k + 1)) (sym (c.in_ok-push-2.ensures.items ∙ ap (λ x. c.loop-k.steps.items ++ x ∷ []) s))
    (part_more t c.tell_found.ensures c.loop-k.k (omega arith) c.loop-k.steps.items c.loop-k.invariant (ap (λ (x : Step). eqb x.rule 0) (sym s) ∙ kept) calm)

pub returns : goal.returns
returns c =
    let t = c.args.trail.now in
    let e : c.loop-k.k ≡ length t.steps = omega arith in
    front_whole t c.loop-k.steps.items (subst (λ n. IsPart t n c.loop-k.steps.items) e c.loop-k.invariant)

pub loop-k-preserved-then-step-eq0 : goal.loop-k-preserved-then-step-eq0
loop-k-preserved-then-step-eq0 c =
    let t = c.args.trail.now in
    let s : c.step-step.result ≡ step_at t.steps c.loop-k.k = c.step-step.ensures in
    part_given t c.tell_found.ensures c.loop-k.k (omega arith) c.loop-k.steps.items c.loop-k.invariant (ap (λ (x : Step). x.rule) (sym s) ∙ c.if-step-eq0.true)
    (ap (λ (x : Step). turned t.terms x.fact) (sym s) ∙ ap (λ ts. turned ts c.step-step.result.fact) (sym c.terms.ensures) ∙ sym c.turned.ensures ∙ c.in_default.is)

pub returns-in-Some : goal.returns-in-Some
returns-in-Some c =
    let t = c.args.trail.now in
    let s : c.step-step.result ≡ step_at t.steps c.loop-k.k = c.step-step.ensures in
    subst (AreFront t) (sym c.in_ok-push.ensures.items)
    (front_turned t c.tell_found.ensures c.loop-k.k (omega arith) c.loop-k.steps.items c.loop-k.invariant c.in-Some.clash (ap (λ (x : Step). x.rule) (sym s) ∙ c.if-step-eq0.true)
    (ap (λ (x : Step). turned t.terms x.fact) (sym s) ∙ ap (λ ts. turned ts c.step-step.result.fact) (sym c.terms.ensures) ∙ sym c.turned.ensures ∙ c.in-Some.is))
