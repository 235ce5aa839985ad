use Rattle.std.proofs.Common.{sym, ◌∙◌, ap, arith, [], ◌+◌, ◌-◌, map}
use Rattle.std.specs.Prelude.{if◌then◌else◌, nat_eq}
use Rattle.sp_text.specs.Violations.{breaks, first}
use Rattle.sp_text.specs.declared.fault.Rule.TheVariants as rule
use Rattle.sp_core.specs.WellFormed.{alone}
use Rattle.sp_plain.specs.Text.{text, texts_of}
use Rattle.sp_judge.specs.Translation.{translations}
use Rattle.sp_effects.specs.EffectRules.{injective_rules}
use Rattle.sp_effects.proofs.Branches.{injective_next}
use Rattle.sp_effects.proofs.change.+judge_alone.Goals as goal

pub returns : goal.returns
returns t c =
    let ds = translations c.args.scope.now c.args.locals.now (texts_of (map text c.args.args.now)) in
    let q = c.args.place in
    let n = c.args.from in
    let m = c.args.more in
    let own = if nat_eq (alone n ds) 1 then [] else breaks q rule.TargetNotInjective in
    let one = c.alone_rule-own.ensures ∙ ap (λ k. first (if nat_eq k 1 then [] else breaks q rule.TargetNotInjective)) c.in_ok-alone.ensures.count in
    c.earlier.ensures own (injective_rules q ds (n + 1) (m - 1)) one c.in_ok-others.ensures ∙ ap first (sym (injective_next q ds n m (omega (arith, c.if-more-eq0.false))))
