use Rattle.sp_core.proofs.StateLemmas.{written}
use Rattle.sp_listing.proofs.listed.Listed.set.Goals as goal

pub returns : goal.returns
returns c =
    rw (← c.self.view_is) (written c.self.inside.places.entries c.insert.new.self.entries c.args.p.now c.args.value (rw (← c.copied.ensures) c.in-Ok.ensures.updates.0))
