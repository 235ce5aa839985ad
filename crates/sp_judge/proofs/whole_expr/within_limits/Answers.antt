use Rattle.std.proofs.Common.{sym, ◌∙◌, ap, Some}
use Rattle.sp_text.specs.declared.violation.Requirement.TheVariants as requirement
use Rattle.sp_judge.proofs.Whole.{made_some, made_none}
use Rattle.sp_judge.proofs.whole_expr.within_limits.Goals as goal

pub returns-in-Some : goal.returns-in-Some
returns-in-Some c t h = made_some t c.args.place c.args.part.core _ h.1 (c.in-Some.is ∙ ap Some (sym c.in-Some.core-is))

pub returns-in-None : goal.returns-in-None
returns-in-None c t h = made_none t c.args.place c.args.part.size c.args.part.core h.0 h.1 c.in-None.is ∙ ap (λ q. Some (record { span = c.args.place; broken = requirement.Limit q })) (sym c.limit_quantity.ensures)
