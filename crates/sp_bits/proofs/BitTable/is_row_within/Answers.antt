use Rattle.sp_bits.proofs.Tables.{row_all, row_within}
use Rattle.sp_bits.proofs.BitTable.is_row_within.Goals as goal

pub returns-clause-within : goal.returns-clause-within
returns-clause-within c =
    let s = c.self.inside in
    rw (← c.self.view_is) (λ t.
    row_within s.words.items s.count s.width c.args.p c.args.i c.self.invariant.0 (rw (← c.self.view_is) at c.requires.p) (rw (← c.self.view_is) at c.requires.i) (λ m l there. rw (← c.deref.ensures.value) (c.is_within.ensures.within t m l (rw c.deref.ensures.value there))))

pub returns-clause-all : goal.returns-clause-all
returns-clause-all c =
    let s = c.self.inside in
    rw (← c.self.view_is) (λ pairs.
    c.is_within.ensures.all (rw c.deref.ensures.value
    (row_all s.words.items s.count s.width c.args.p c.args.i c.self.invariant.0 (rw (← c.self.view_is) at c.requires.p) (rw (← c.self.view_is) at c.requires.i) c.self.invariant.3 pairs)))
