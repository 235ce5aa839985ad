use Rattle.std.proofs.Common.{◌≡◌, ◌∙◌, ◌++◌, ℕ, ap, arith, length, map}
use Rattle.std.proofs.lemmas.List.{length-map}
use Rattle.sp_cert.specs.Tree.{tree}
use Rattle.sp_formulas.specs.Formulas.{formula_as}
use Rattle.sp_report.specs.Headings.{interface_line}
use Rattle.sp_deciding.specs.Decided.{open_count}
use Rattle.sp_deciding.specs.Verdicts.{all_lines, last_line}
use Rattle.sp_prove_command.proofs.Kept.{none_open, spelled}
use Rattle.sp_prove_command.proofs.Printing.{proved, unproved}
use Rattle.sp_prove_command.proofs.prove.told.Goals as goal

pub returns-then-open-gt0 : goal.returns-then-open-gt0
returns-then-open-gt0 c =
    let p = c.args.spec in
    let fs = c.args.made.now in
    let ds = c.args.proofs.decisions.items in
    let k = c.open_count-open.result in
    let report = c.in_ok-refused.field-0 in
    unproved p fs ds k report.bytes.items report.verdict (c.open_count-open.ensures.count ∙ ap open_count c.deref.ensures.value) c.if-open-gt0.true
    (c.in_ok-refused.ensures.bytes ∙ ap (λ xs. interface_line p ++ all_lines p 1 (map formula_as fs) xs ++ last_line (length fs) k) c.deref-then-open-gt0.ensures.value)
    c.in_ok-refused.ensures.verdict

pub accept-accepted-requires-clause-closed : goal.accept-accepted-requires-clause-closed
accept-accepted-requires-clause-closed c =
    let count : c.open_count-open.result ≡ open_count c.args.proofs.decisions.items = c.open_count-open.ensures.count ∙ ap open_count c.deref.ensures.value in
    let none : open_count c.args.proofs.decisions.items ≡ 0 = omega (arith, c.if-open-gt0.false, count) in
    none_open c.args.spec c.args.made.now c.args.proofs.decisions.items (map tree c.args.proofs.certs.items) c.requires.kept none

pub proved-requires : goal.proved-requires
proved-requires c =
    let fs = c.args.made.now in
    let count : c.open_count-open.result ≡ open_count c.args.proofs.decisions.items = c.open_count-open.ensures.count ∙ ap open_count c.deref.ensures.value in
    let none : open_count c.args.proofs.decisions.items ≡ 0 = omega (arith, c.if-open-gt0.false, count) in
    spelled c.args.spec (map formula_as fs) c.args.proofs.decisions.items (map tree c.args.proofs.certs.items) c.requires.kept none (omega (arith, c.requires.few, length-map fs formula_as))

pub returns : goal.returns
returns c =
    let p = c.args.spec in
    let fs = c.args.made.now in
    let ds = c.args.proofs.decisions.items in
    let report = c.in_ok-proved.field-0 in
    let count : c.open_count-open.result ≡ open_count ds = c.open_count-open.ensures.count ∙ ap open_count c.deref.ensures.value in
    let none : open_count ds ≡ 0 = omega (arith, c.if-open-gt0.false, count) in
    proved p fs ds (map tree c.args.proofs.certs.items) report.bytes.items report.verdict c.requires.listed c.requires.few c.requires.kept none c.in_ok-proved.ensures.bytes c.in_ok-proved.ensures.verdict
