use Rattle.sp_cert.specs.Tree.{tree}
use Rattle.sp_sequent.specs.Claims.{claim_of}
use Rattle.sp_verdicts.proofs.laws.tell_certified.Goals as goal

pub returns : goal.returns
returns c =
    let p = c.args.spec.now in
    let k = claim_of c.args.formula.now in
    let t = tree c.args.cert.now in
    record {
      certified = c.requires.certified;
      closed = c.certified_are_closed.ensures p k t c.requires.certified;
      holds = c.certified_claims_hold.ensures p k t c.functions.ensures.well_formed c.requires.typed c.requires.certified;
    }
