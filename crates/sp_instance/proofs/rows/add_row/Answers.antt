use Rattle.std.proofs.Common.{◌≡◌, sym, ◌∙◌, ap, None, Some}
use Rattle.std.specs.Prelude.{false}
use Rattle.sp_text.specs.Violations.{first}
use Rattle.sp_core.specs.Machine.{types_of}
use Rattle.sp_instance.specs.Meanings.{arguments_broken, arguments_in, value_broken}
use Rattle.sp_instance.specs.Tables.{is_one_of, repeat_broken, row_key, row_span, with_key}
use Rattle.sp_instance.proofs.Seen.{both_none, fine_none, fine_some}
use Rattle.sp_instance.proofs.rows.add_row.Goals as goal

pub returns-in_ok-note-in-None-clause-repeated : goal.returns-in_ok-note-in-None-clause-repeated
returns-in_ok-note-in-None-clause-repeated c before h =
    let w = c.args.words.now in
    let q = c.args.param.now in
    let r = c.args.text.now in
    let made = c.arguments-args.ensures.made ∙ (λ i. arguments_in w false (types_of (c.items.ensures i)) (c.items-2.ensures i)) in
    let found = c.arguments-args.ensures.found ∙ (λ i. first (arguments_broken w false c.args.name (types_of (c.items.ensures i)) (c.items-2.ensures i))) in
    let key : Some c.arguments-args.result.0 ≡ row_key w q c.args.name r =
    ap Some made ∙ fine_some (arguments_broken w false c.args.name (types_of q.formals) r.0) (arguments_in w false (types_of q.formals) r.0) (sym found ∙ c.in-None.is) in
    let noted = c.in_ok-note-in-None.ensures.repeated before h in
    (noted.0 ∙ (λ i. first (repeat_broken before (key i) (c.row_span.ensures i))), λ a. noted.1 a ∙ ap (λ o. is_one_of (with_key before o) a) key)

pub returns-in-Some-clause-repeated : goal.returns-in-Some-clause-repeated
returns-in-Some-clause-repeated c before h =
    let w = c.args.words.now in
    let q = c.args.param.now in
    let r = c.args.text.now in
    let found = c.arguments-args.ensures.found ∙ (λ i. first (arguments_broken w false c.args.name (types_of (c.items.ensures i)) (c.items-2.ensures i))) in
    let key : None ≡ row_key w q c.args.name r =
    fine_none (arguments_broken w false c.args.name (types_of q.formals) r.0) (arguments_in w false (types_of q.formals) r.0) _ (sym found ∙ c.in-Some.is) in
    (ap (λ o. first (repeat_broken before o (row_span r))) key, λ a. h a ∙ ap (λ o. is_one_of (with_key before o) a) key)

pub returns-in-Some-clause-made : goal.returns-in-Some-clause-made
returns-in-Some-clause-made c e f =
    let w = c.args.words.now in
    let vs = arguments_broken w false c.args.name (types_of c.items.result.now) c.items-2.result.now in
    let ws = value_broken w false c.args.param.now.ty c.args.text.now.1 in
    let none = both_none vs ws _ _ _ c.arguments-args.ensures.found c.value-value.ensures.found (c.earlier-own.ensures vs ws c.arguments-args.ensures.found c.value-value.ensures.found) e in
    let clash : None ≡ Some c.in-Some.field-0 = sym none.0 ∙ c.in-Some.is in
    absurd cc
