use Rattle.std.proofs.Common.{sym, ◌∙◌, ap, Some}
use Rattle.sp_text.specs.declared.violation.Requirement.TheVariants as requirement
use Rattle.sp_text.specs.Violations.{exceeds, first}
use Rattle.sp_judge.proofs.Whole.{made_some, made_none}
use Rattle.sp_judge.proofs.whole_expr.limit_of.Goals as goal

pub returns-in-Some : goal.returns-in-Some
returns-in-Some c t h = sym (ap first (made_some t c.args.place c.args.part.now.core c.in-Some.field-0 h.1 c.in-Some.is).0)

pub returns-in-None : goal.returns-in-None
returns-in-None c t h = c.exceeds.ensures ∙ ap (λ q. first (exceeds c.args.place q)) c.limit_quantity.ensures ∙ sym (made_none t c.args.place c.args.part.now.size c.args.part.now.core h.0 h.1 c.in-None.is)
