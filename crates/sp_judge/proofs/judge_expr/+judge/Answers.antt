use Rattle.std.proofs.Common.{rules, ◌≡◌, sym, ◌∙◌, ap, ◌++◌, map, length}
use Rattle.std.specs.Option.{option_copied}
use Rattle.sp_plain.specs.Text.{text, texts_of, count}
use Rattle.sp_plain.proofs.Texts.{text-New}
use Rattle.sp_judge.specs.Names.{meaning, head_of, type_of_head}
use Rattle.sp_text.specs.Firsts.{behind}
use Rattle.sp_text.specs.Violations.{first}
use Rattle.sp_judge.specs.Broken.{all_broken, asked_of, count_rule, call_broken, quoted_rules, quote_rules, result_rule, broken}
use Rattle.sp_judge.proofs.Weights.{count-texts}
use Rattle.sp_judge.proofs.judge_expr.+judge.Goals as goal

pub judge_call-returns : goal.judge_call-returns
judge_call-returns t c xs named =
    let s = c.args.scope.now in
    let i = c.args.site in
    let l = c.args.locals.now in
    let f = c.args.f.now in
    let ds = texts_of (map text c.args.args.now) in
    let m : c.find-meaning.result ≡ meaning s l f.name = c.find-meaning.ensures in
    let h : option_copied c.head_of-head.result ≡ head_of s (meaning s l f.name) = c.head_of-head.ensures ∙ ap (head_of s) m in
    let n : length c.args.args.now ≡ count ds = count-texts c.args.args.now in
    let q : c.asked_of.result.now ≡ asked_of (head_of s (meaning s l f.name)) (count ds) = c.asked_of.ensures ∙ (λ i. asked_of (h i) (n i)) in
    c.otherwise.ensures (xs ++ all_broken s i l (asked_of (head_of s (meaning s l f.name)) (count ds)) ds) (count_rule f.span (head_of s (meaning s l f.name)) (count ds))
    (c.earlier.ensures xs (all_broken s i l (asked_of (head_of s (meaning s l f.name)) (count ds)) ds) named (c.in_ok-inner.ensures ∙ ap (λ q. first (all_broken s i l q ds)) q))
    (c.count_rule.ensures ∙ (λ i. first (count_rule f.span (h i) (n i))))

pub judge-returns-in_ok-inner-in-New : goal.judge-returns-in_ok-inner-in-New
judge-returns-in_ok-inner-in-New t c =
    let s = c.args.scope.now in
    let i = c.args.site in
    let l = c.args.locals.now in
    let q = c.args.asked in
    let p = c.args.e.now.span in
    let f = c.in-New.f in
    let ds = texts_of (map text c.in-New.args) in
    let m : c.find-meaning-in-New.result ≡ meaning s l f.name = c.find-meaning-in-New.ensures in
    let h : option_copied c.head_of-head.result ≡ head_of s (meaning s l f.name) = c.head_of-head.ensures ∙ ap (head_of s) m in
    let named = quoted_rules s f.span (meaning s l f.name) in
    let ty : c.result_rule-ty.result ≡ first (result_rule q p (type_of_head (head_of s (meaning s l f.name)))) = c.result_rule-ty.ensures ∙ ap (λ u. first (result_rule q p u)) (c.type_of_head.ensures ∙ ap type_of_head h) in
    let quote : c.quote_rules.result ≡ first (quote_rules i p (head_of s (meaning s l f.name))) = c.quote_rules.ensures ∙ ap (λ u. first (quote_rules i p u)) h in
    let inner : c.in_ok-inner-in-New.inner ≡ first (call_broken s i l named f ds) = search (rules, c, m) in
    let goal : c.otherwise-in-New.result ≡ first (behind (call_broken s i l named f ds) (result_rule q p (type_of_head (head_of s (meaning s l f.name))) ++ quote_rules i p (head_of s (meaning s l f.name)))) =
    c.otherwise-in-New.ensures (call_broken s i l named f ds) (result_rule q p (type_of_head (head_of s (meaning s l f.name))) ++ quote_rules i p (head_of s (meaning s l f.name))) inner
    (c.earlier.ensures (result_rule q p (type_of_head (head_of s (meaning s l f.name)))) (quote_rules i p (head_of s (meaning s l f.name))) ty quote) in
    goal ∙ ap (λ z. first (broken s i l q z)) (sym (ap (λ n. text (record { span = p; node = n })) c.in-New.is ∙ text-New p f c.in-New.args))
