use Rattle.sp_cert.specs.Tree.{tree}
use Rattle.sp_sequent.specs.Claims.{claim_of, question_of}
use Rattle.sp_verdicts.proofs.Outcomes.{checks_of, lift_of}
use Rattle.sp_verdicts.proofs.verdict.lift_formula.Goals as goal

pub returns-clause-lift : goal.returns-clause-lift
returns-clause-lift c = lift_of c.in-Ok.root (question_of c.args.spec.now (claim_of c.args.formula.now)) c.in-Ok.ensures.root (tree c.args.cert.now) c.lift_root.result c.lift_root.ensures.lift

pub returns-clause-checks : goal.returns-clause-checks
returns-clause-checks c = checks_of c.in-Ok.root (question_of c.args.spec.now (claim_of c.args.formula.now)) c.in-Ok.ensures.root c.lift_root.result c.lift_root.ensures.checks
