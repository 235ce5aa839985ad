use Rattle.std.proofs.Common.{◌∙◌, sym}
use Rattle.sp_cert.specs.Tree.{tree}
use Rattle.sp_verdicts.proofs.Outcomes.{accepted, refused}
use Rattle.sp_verdicts.proofs.verdict.check_root.Goals as goal

pub returns-in-Ok-accepts : goal.returns-in-Ok-accepts
returns-in-Ok-accepts c = accepted c.in-Ok.checker c.args.root.now (tree c.args.cert.now) c.in-Ok.ensures (sym c.accepts.ensures.answer ∙ c.in-Ok-accepts.is)

pub returns : goal.returns
returns c = refused c.in-Ok.checker c.args.root.now (tree c.args.cert.now) c.in-Err.fault c.in-Ok.ensures (sym c.accepts.ensures.answer ∙ c.in-Err.is)
