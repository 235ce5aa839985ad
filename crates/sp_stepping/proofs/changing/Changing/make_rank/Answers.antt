use Rattle.std.proofs.Common.{◌≡◌, refl, subst, arith, suc, ◌+◌, ◌<◌, ◌≤◌, List}
use Rattle.sp_core.specs.declared.state.Entry.{Entry}
use Rattle.sp_core.specs.Ranks.{of_rank}
use Rattle.sp_listing.specs.Listing.{fresh}
use Rattle.sp_listing.specs.True.{true_entries}
use Rattle.sp_stepping.specs.Moments as moment
use Rattle.sp_stepping.specs.Moments.{AreMade, IsMoment, Moment, changes, laid, machine, trees}
use Rattle.sp_stepping.proofs.MomentLemmas.{full_next, made_next}
use Rattle.sp_stepping.proofs.changing.Changing.make_rank.Goals as goal

pub returns-then-fresh-self-clause-fault : goal.returns-then-fresh-self-clause-fault
returns-then-fresh-self-clause-fault c =
    let n = c.args.self.now in
    let es : List Entry = true_entries (machine n) (moment.state n) (laid n c.args.made) n.invocation (of_rank (changes n) c.args.rank) in
    full_next n (subst IsMoment c.self.view_is c.self.invariant) c.args.rank c.args.made c.in_ok-next.next c.in_ok-both.both c.requires.made es refl
    c.in_ok-next.ensures.alike c.in_ok-next.ensures.same c.in_ok-both.ensures c.order_law.ensures c.changed_law.ensures c.entries_law.ensures c.fresh.ensures.apart c.requires.rank
    (subst (λ (m : Moment). m.room < fresh c.in_ok-both.both (moment.state m)) c.self.view_is (subst (λ k. c.self.inside.room < k) c.fresh.ensures.value c.if-fresh-self.true))

pub returns-clause-made : goal.returns-clause-made
returns-clause-made c =
    let n = c.args.self.now in
    let es : List Entry = true_entries (machine n) (moment.state n) (laid n c.args.made) n.invocation (of_rank (changes n) c.args.rank) in
    let more : suc c.args.rank ≡ c.args.rank + 1 = omega arith in
    subst (λ k. AreMade n k c.in_ok-both.both) more
    (made_next n (subst IsMoment c.self.view_is c.self.invariant) c.args.rank c.args.made c.in_ok-next.next c.in_ok-both.both c.requires.made es refl
    c.in_ok-next.ensures.alike c.in_ok-next.ensures.same c.in_ok-both.ensures c.order_law.ensures c.changed_law.ensures c.entries_law.ensures c.fresh.ensures.apart
    (subst (λ (m : Moment). fresh c.in_ok-both.both (moment.state m) ≤ m.room) c.self.view_is (subst (λ k. k ≤ c.self.inside.room) c.fresh.ensures.value c.if-fresh-self.false)))
