use Rattle.std.proofs.Common.{◌∙◌, [], ap}
use Rattle.std.specs.Prelude.{if◌then◌else◌}
use Rattle.sp_text.specs.declared.fault.Rule.TheVariants as rule
use Rattle.sp_text.specs.Violations.{breaks, first}
use Rattle.sp_functions.proofs.Made.{quantified}
use Rattle.sp_functions.proofs.judging.quantified.Goals as goal

pub returns : goal.returns
returns c = λ t h. c.breaks_where.ensures ∙ ap (λ b. first (if b then breaks c.args.place rule.LevelQuantifies else [])) (quantified t c.args.size h)
