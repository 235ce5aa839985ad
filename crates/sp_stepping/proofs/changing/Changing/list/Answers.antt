use Rattle.std.proofs.Common.{◌≡◌, sym, subst, List}
use Rattle.std.specs.Prelude.{IfOk}
use Rattle.sp_core.specs.declared.state.Entry.{Entry}
use Rattle.sp_core.specs.Ranks.{of_rank}
use Rattle.sp_eval.specs.Settings.{IsSetting, Setting}
use Rattle.sp_listing.specs.Conditions.{AreEffectsIn}
use Rattle.sp_listing.specs.True.{true_entries}
use Rattle.sp_stepping.specs.Moments as moment
use Rattle.sp_stepping.specs.Moments.{AreMade, IsMoment, Moment, changes, laid, machine, trees}
use Rattle.sp_stepping.proofs.MomentLemmas.{effects_in, listed_is, made_setting, setting}
use Rattle.sp_stepping.proofs.changing.Changing.list.Goals as goal

pub new-over-requires : goal.new-over-requires
new-over-requires c =
    subst (λ n. IsSetting (setting n c.args.made.now)) (sym c.self.view_is)
    (made_setting c.args.self.now (subst IsMoment c.self.view_is c.self.invariant) c.overlay_law.ensures c.args.rank c.args.made.now c.requires)

pub list_rank-requires-clause-effects : goal.list_rank-requires-clause-effects
list_rank-requires-clause-effects c =
    let n : Moment = record { parts = c.self.inside.spec.now; instance = c.self.inside.inst.now; entries = c.self.inside.state.now.entries; room = c.self.inside.room; invocation = c.self.inside.invocation.now; effects = c.self.inside.effects.now; ranks = c.self.inside.ranks.now } in
    subst (λ (s : Setting). AreEffectsIn s n.invocation.args (trees n)) (sym c.new-over.ensures.value) (effects_in n c.self.invariant c.args.made.now)

pub returns : goal.returns
returns c =
    let n : Moment = record { parts = c.self.inside.spec.now; instance = c.self.inside.inst.now; entries = c.self.inside.state.now.entries; room = c.self.inside.room; invocation = c.self.inside.invocation.now; effects = c.self.inside.effects.now; ranks = c.self.inside.ranks.now } in
    subst (λ (m : Moment). IfOk c.list_rank.result (λ es. es.items ≡ true_entries (machine m) (moment.state m) (laid m c.args.made.now) m.invocation (of_rank (changes m) c.args.rank))) c.self.view_is
    (subst (λ (xs : List Entry). IfOk c.list_rank.result (λ es. es.items ≡ xs)) (listed_is c.overlay_law.ensures n c.args.made.now c.args.rank c.new-over.result c.new-over.ensures.value) c.list_rank.ensures)
