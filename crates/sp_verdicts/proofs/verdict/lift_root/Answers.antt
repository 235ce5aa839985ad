use Rattle.sp_cert.specs.Tree.{tree}
use Rattle.sp_verdicts.proofs.Outcomes.{checks_of, lift_of}
use Rattle.sp_verdicts.proofs.verdict.lift_root.Goals as goal

pub returns-clause-lift : goal.returns-clause-lift
returns-clause-lift c = lift_of c.in-Ok.checker c.args.root.now c.in-Ok.ensures (tree c.args.cert.now) c.lift.result c.lift.ensures.answer

pub returns-clause-checks : goal.returns-clause-checks
returns-clause-checks c = checks_of c.in-Ok.checker c.args.root.now c.in-Ok.ensures c.lift.result c.lift.ensures.checks
