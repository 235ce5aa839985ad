use Rattle.std.proofs.Common.{◌≡◌, sym, ◌∙◌, subst, List}
use Rattle.sp_values.specs.declared.value.Value.{Value}
use Rattle.sp_core.specs.Effects.{results_in}
use Rattle.sp_core.specs.Machine.{IsResult}
use Rattle.sp_core.specs.Measures.{HaveResults}
use Rattle.sp_core.specs.Ranks.{rank_count}
use Rattle.sp_eval.specs.Settings.{IsSetting, Setting}
use Rattle.sp_listing.specs.Conditions.{AreEffectsIn}
use Rattle.sp_stepping.specs.Moments as moment
use Rattle.sp_stepping.specs.Moments.{AreMade, IsMoment, Moment, changes, laid, machine, trees}
use Rattle.sp_stepping.proofs.MomentLemmas.{effects_in, made_setting, result_is, setting}
use Rattle.sp_stepping.proofs.ResultLemmas.{first_is}
use Rattle.std.proofs.lemmas.Option.{none-some, same_Some}
use Rattle.sp_stepping.proofs.changing.Changing.result.Goals as goal

pub new-over-requires : goal.new-over-requires
new-over-requires c =
    subst (λ n. IsSetting (setting n c.args.made.now)) (sym c.self.view_is)
    (made_setting c.args.self.now (subst IsMoment c.self.view_is c.self.invariant) c.overlay_law.ensures (rank_count (changes c.args.self.now)) c.args.made.now c.requires.made)

pub first_among-requires : goal.first_among-requires
first_among-requires c =
    let n : Moment = record { parts = c.self.inside.spec.now; instance = c.self.inside.inst.now; entries = c.self.inside.state.now.entries; room = c.self.inside.room; invocation = c.self.inside.invocation.now; effects = c.self.inside.effects.now; ranks = c.self.inside.ranks.now } in
    subst (λ (x : List Value). AreEffectsIn c.new-over.result x (trees n)) (sym c.new.ensures)
    (subst (λ (s : Setting). AreEffectsIn s n.invocation.args (trees n)) (sym c.new-over.ensures.value) (effects_in n c.self.invariant c.args.made.now))

pub unreachable-requires : goal.unreachable-requires
unreachable-requires c =
    let n : Moment = record { parts = c.self.inside.spec.now; instance = c.self.inside.inst.now; entries = c.self.inside.state.now.entries; room = c.self.inside.room; invocation = c.self.inside.invocation.now; effects = c.self.inside.effects.now; ranks = c.self.inside.ranks.now } in
    let r = c.result_law.ensures (trees n) (subst (λ (m : Moment). HaveResults 1 (trees m)) (sym c.self.view_is) c.requires.results) (machine n) (moment.state n) (laid n c.args.made.now) n.invocation in
    none-some r.0 (sym c.in-None.is ∙ c.first_among.ensures ∙ result_is c.overlay_law.ensures n c.args.made.now c.new-over.result c.new-over.ensures.value c.new.result c.new.ensures
    ∙ first_is (machine n) (moment.state n) (laid n c.args.made.now) n.invocation (results_in (trees n)) r.0 r.1)

pub returns : goal.returns
returns c =
    let n : Moment = record { parts = c.self.inside.spec.now; instance = c.self.inside.inst.now; entries = c.self.inside.state.now.entries; room = c.self.inside.room; invocation = c.self.inside.invocation.now; effects = c.self.inside.effects.now; ranks = c.self.inside.ranks.now } in
    let r = c.result_law.ensures (trees n) (subst (λ (m : Moment). HaveResults 1 (trees m)) (sym c.self.view_is) c.requires.results) (machine n) (moment.state n) (laid n c.args.made.now) n.invocation in
    let same : c.in-Some.value ≡ r.0 = same_Some c.in-Some.value r.0 (sym c.in-Some.is ∙ c.first_among.ensures ∙ result_is c.overlay_law.ensures n c.args.made.now c.new-over.result c.new-over.ensures.value c.new.result c.new.ensures
    ∙ first_is (machine n) (moment.state n) (laid n c.args.made.now) n.invocation (results_in (trees n)) r.0 r.1) in
    subst (λ (m : Moment). IsResult (machine m) (moment.state m) (laid m c.args.made.now) m.invocation (results_in (trees m)) c.in-Some.value) c.self.view_is
    (subst (λ (v : Value). IsResult (machine n) (moment.state n) (laid n c.args.made.now) n.invocation (results_in (trees n)) v) (sym same) r.1)
