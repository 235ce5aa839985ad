use Rattle.std.proofs.Common.{sym, ◌∙◌, ap}
use Rattle.std.specs.Prelude.{is_some}
use Rattle.std.specs.Map.{lookup}
use Rattle.sp_text.specs.Violations.{first}
use Rattle.sp_values.specs.Identity.{same_values}
use Rattle.sp_naming.specs.Names.{repeat_rule}
use Rattle.sp_instance.specs.Tables.{have_arguments}
use Rattle.sp_instance.proofs.Seen.{added, are_new, have_more}
use Rattle.sp_instance.proofs.rows.note.Goals as goal

pub returns-clause-repeated : goal.returns-clause-repeated
returns-clause-repeated c before h =
    let there = c.is_some.ensures ∙ ap is_some c.in_ok-earlier.ensures.earlier in (
      c.repeat.ensures ∙ ap (λ b. first (repeat_rule b c.args.span)) (there ∙ h c.args.args),
      λ a. ap (λ rows. have_arguments rows a) c.in_ok-earlier.ensures.rows ∙ have_more c.args.table.now.rows before c.args.args c.args.value a (h a),
    )

pub returns-clause-made : goal.returns-clause-made
returns-clause-made c e =
    let there = c.is_some.ensures ∙ ap is_some c.in_ok-earlier.ensures.earlier in
    let none = are_new c.is_some.result c.args.span (lookup (same_values c.args.args) c.args.table.now.rows) there (sym c.repeat.ensures ∙ e) in
    c.in_ok-earlier.ensures.rows ∙ added c.args.table.now.rows c.args.args c.args.value none
