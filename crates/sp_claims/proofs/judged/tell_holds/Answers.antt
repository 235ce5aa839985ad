use Rattle.sp_claims.proofs.Against.{closed_claims_hold}
use Rattle.sp_sequent.specs.Claims.{claim_of}
use Rattle.sp_claims.proofs.judged.tell_holds.Goals as goal

pub returns : goal.returns
returns c = closed_claims_hold c.args.spec.now (claim_of c.args.formula.now) c.functions.ensures.well_formed c.requires.typed c.requires.closed
