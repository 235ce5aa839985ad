use Rattle.std.proofs.Common.{◌≡◌, sym, ◌∙◌, ap, subst, arith, ◌<◌, List}
use Rattle.sp_core.specs.declared.state.Entry.{Entry}
use Rattle.sp_core.specs.Ranks.{rank_count}
use Rattle.sp_stepping.specs.Moments.{AreMade, IsMoment, Moment, changes}
use Rattle.sp_stepping.proofs.MomentLemmas.{none_made, rank_number, ranks_small}
use Rattle.sp_stepping.proofs.changing.Changing.make.Goals as goal

pub loop-rank-init : goal.loop-rank-init
loop-rank-init c = subst (λ (xs : List Entry). AreMade c.args.self.now 0 xs) (sym c.new-made.ensures) (none_made c.args.self.now (subst IsMoment c.self.view_is c.self.invariant))

pub overflow_cast-rank : goal.overflow_cast-rank
overflow_cast-rank c =
    let n : Moment = record { parts = c.self.inside.spec.now; instance = c.self.inside.inst.now; entries = c.self.inside.state.now.entries; room = c.self.inside.room; invocation = c.self.inside.invocation.now; effects = c.self.inside.effects.now; ranks = c.self.inside.ranks.now } in
    let number = rank_number n c.self.invariant in
    let few = ranks_small n c.self.invariant in
    omega (arith, c.loop-rank-test.true, c.count_ranks-rank-end.ensures, number, few)

pub make_rank-requires-clause-rank : goal.make_rank-requires-clause-rank
make_rank-requires-clause-rank c =
    let n : Moment = record { parts = c.self.inside.spec.now; instance = c.self.inside.inst.now; entries = c.self.inside.state.now.entries; room = c.self.inside.room; invocation = c.self.inside.invocation.now; effects = c.self.inside.effects.now; ranks = c.self.inside.ranks.now } in
    subst (λ (m : Moment). c.loop-rank.rank < rank_count (changes m)) c.self.view_is (subst (λ k. c.loop-rank.rank < k) (c.count_ranks-rank-end.ensures ∙ rank_number n c.self.invariant) c.loop-rank-test.true)

pub returns-clause-made : goal.returns-clause-made
returns-clause-made c =
    let n : Moment = record { parts = c.self.inside.spec.now; instance = c.self.inside.inst.now; entries = c.self.inside.state.now.entries; room = c.self.inside.room; invocation = c.self.inside.invocation.now; effects = c.self.inside.effects.now; ranks = c.self.inside.ranks.now } in
    let number : c.count_ranks-rank-end.result ≡ rank_count (changes c.args.self.now) = c.count_ranks-rank-end.ensures ∙ rank_number n c.self.invariant ∙ ap (λ (m : Moment). rank_count (changes m)) c.self.view_is in
    let all : c.loop-rank.rank ≡ c.count_ranks-rank-end.result = omega arith in
    subst (λ k. AreMade c.args.self.now k c.loop-rank.made) (all ∙ number) c.loop-rank.invariant
