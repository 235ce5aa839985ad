use Rattle.std.proofs.Common.{◌≡◌, ◌∙◌, ap, List, map}
use Rattle.sp_values.specs.declared.value.Value.{Value}
use Rattle.sp_core.specs.Instances.{filling_of, machine_of}
use Rattle.sp_core.specs.Machine.{value_at}
use Rattle.sp_core.specs.States.{entry_of}
use Rattle.sp_core.specs.Tree.{tree}
use Rattle.sp_animator.specs.Views as views
use Rattle.sp_animator.proofs.ViewLemmas.{has_row, none_yet, row_there, value_old, value_typed}
use Rattle.sp_animator.proofs.viewing.view.Goals as goal

pub eval-requires-clause-typed : goal.eval-requires-clause-typed
eval-requires-clause-typed c =
    let there = row_there c.items-row-items.result.now c.args.m.now.functions c.items-row-items.ensures c.loop-row.row-index c.row-item.result c.loop-row-test.true c.row-item.is in
    value_typed c.args.lower.now c.args.inst.now c.args.m.now c.args.p.now c.requires.mapping c.requires.place c.loop-row.row-index c.row-item.result there c.if-row-p.true
    c.new-env.result (c.new-env.ensures ∙ c.translate.ensures ∙ ap (λ ts. map (views.translated ts) c.args.p.now.args) c.items.ensures)

pub eval-requires-clause-no_new : goal.eval-requires-clause-no_new
eval-requires-clause-no_new c =
    let there = row_there c.items-row-items.result.now c.args.m.now.functions c.items-row-items.ensures c.loop-row.row-index c.row-item.result c.loop-row-test.true c.row-item.is in
    value_old c.args.lower.now c.args.inst.now c.args.m.now c.args.p.now c.requires.mapping c.requires.place c.loop-row.row-index c.row-item.result there

pub returns-then-row-p : goal.returns-then-row-p
returns-then-row-p c =
    let m = machine_of c.args.lower.now (filling_of c.args.inst.now) in
    let there = row_there c.items-row-items.result.now c.args.m.now.functions c.items-row-items.ensures c.loop-row.row-index c.row-item.result c.loop-row-test.true c.row-item.is in
    let env : c.new-env.result ≡ map (views.translated c.args.m.now.types) c.args.p.now.args = c.new-env.ensures ∙ c.translate.ensures ∙ ap (λ ts. map (views.translated ts) c.args.p.now.args) c.items.ensures in
    (c.loop-row.row-index, c.row-item.result, record { there = there; upper = c.if-row-p.true; value = c.eval.ensures.value ∙ ap (λ (x : List Value). value_at m (entry_of c.args.state.now.entries) x (tree c.row-item.result.value)) env })

pub loop-row-preserved : goal.loop-row-preserved
loop-row-preserved c =
    let there = row_there c.items-row-items.result.now c.args.m.now.functions c.items-row-items.ensures c.loop-row.row-index c.row-item.result c.loop-row-test.true c.row-item.is in
    none_yet c.args.m.now.functions c.args.p.now.fun c.loop-row.row-index c.row-item.result c.loop-row.invariant there c.if-row-p.false

pub unreachable-requires : goal.unreachable-requires
unreachable-requires c =
    has_row c.args.lower.now c.args.inst.now c.args.m.now c.args.p.now c.requires.place c.items-row-items.result.now c.items-row-items.ensures c.loop-row.row-index c.loop-row-test.false c.loop-row.invariant
