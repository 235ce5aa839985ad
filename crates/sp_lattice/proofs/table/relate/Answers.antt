use Rattle.sp_lattice.proofs.Entries.{entry-set}
use Rattle.sp_lattice.proofs.table.relate.Goals as goal

pub returns : goal.returns
returns c = λ a b p q. rw c.place.ensures.place (entry-set c.args.count c.args.table.now c.args.x c.args.y a b c.requires.square c.requires.x c.requires.y q)
