use Rattle.std.proofs.Common.{◌*◌}
use Rattle.sp_bits.proofs.Tables.{has_at}
use Rattle.sp_bits.proofs.BitTable.get.Goals as goal

pub returns : goal.returns
returns c =
    let s = c.self.inside in
    let h = has_at s.words.items s.words.items s.count (64 * s.width) c.args.i c.args.j c.self.invariant.0 (rw (← c.self.view_is) at c.requires.i) (rw (← c.self.view_is) at c.requires.j) in
    cc (h, c.read.ensures, c.deref.ensures.value, c.place.ensures.place, c.self.view_is)
