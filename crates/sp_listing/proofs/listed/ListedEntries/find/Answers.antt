use Rattle.std.proofs.Common.{sym, ◌∙◌}
use Rattle.sp_core.proofs.StateLemmas.{entry_of-lookup}
use Rattle.sp_listing.proofs.listed.ListedEntries.find.Goals as goal

pub returns : goal.returns
returns c = rw (← c.self.view_is) (c.copied.ensures ∙ c.get.ensures.value ∙ sym (entry_of-lookup c.self.inside.places.entries c.args.place.now))
