use Rattle.std.proofs.Common.{◌≡◌, ◌∙◌, ap, map, length, Some}
use Rattle.std.specs.Option.{option_copied}
use Rattle.sp_plain.specs.Text.{text, texts_of, count}
use Rattle.sp_text.specs.Firsts.{behind}
use Rattle.sp_text.specs.Violations.{first}
use Rattle.sp_judge.specs.Broken.{asked_of, count_rule, whole_broken}
use Rattle.sp_judge.specs.Translation.{translations}
use Rattle.sp_judge.specs.Visible.{function_at}
use Rattle.sp_judge.specs.declared.scope.Site.TheVariants as site
use Rattle.sp_judge.proofs.Weights.{count-texts}
use Rattle.sp_effects.specs.EffectRules.{all_whole, injective_rules}
use Rattle.sp_effects.proofs.change.judge_change.Goals as goal

pub returns : goal.returns
returns c =
    let s = c.args.scope.now in
    let l = c.args.locals.now in
    let o = function_at s c.args.target.fun in
    let ds = texts_of (map text c.args.args.now) in
    let p = c.args.f.now.span in
    let h : option_copied c.head_of-head.result ≡ o = c.head_of-head.ensures in
    let n : length c.args.args.now ≡ count ds = count-texts c.args.args.now in
    let args = all_whole s site.Right l (asked_of o (count ds)) ds in
    let number = count_rule p o (count ds) in
    let alone = injective_rules c.args.place (translations s l ds) c.args.formals c.args.bound in
    let value = whole_broken s site.Right l (Some c.args.target.ty) (text c.args.value.now) in
    let q = c.asked_of.ensures ∙ (λ i. asked_of (h i) (n i)) in
    let inner : c.in_ok-inner.inner ≡ first args = c.in_ok-inner.ensures ∙ ap (λ q. first (all_whole s site.Right l q ds)) q in
    let call = c.otherwise-call.ensures args number inner (c.count_rule.ensures ∙ (λ i. first (count_rule p (h i) (n i)))) in
    c.earlier.ensures (behind (behind args number) alone) value (c.otherwise.ensures (behind args number) alone call c.in_ok-alone.ensures) c.in_ok-value.ensures
