use Rattle.sp_cert.specs.Tree.{tree}
use Rattle.sp_sequent.specs.Claims.{claim_of}
use Rattle.sp_verdicts.proofs.Outcomes.{verdict}
use Rattle.sp_verdicts.proofs.verdict.check_formula.Goals as goal

pub returns-clause-verdict : goal.returns-clause-verdict
returns-clause-verdict c =
    verdict c.certified_are_closed.ensures c.certified_claims_hold.ensures c.args.spec.now (claim_of c.args.formula.now) (tree c.args.cert.now) c.functions.ensures.well_formed c.requires.typed
    c.in-Ok.root c.in-Ok.ensures.root c.check_root.result c.check_root.ensures
