use Rattle.sp_verdicts.proofs.laws.certified_claims_hold.Goals as goal

pub returns : goal.returns
returns c = λ p k t well_formed typed e. c.closed_claims_hold.ensures p k well_formed typed (c.certified_are_closed.ensures p k t e)
