use Rattle.std.proofs.Common.{◌≡◌, ◌<◌, ◌++◌, ◌∷◌, [], sym, ◌∙◌, ap, subst, arith, length}
use Rattle.sp_core.specs.States.{entry_of}
use Rattle.sp_core.specs.Tree.{tree}
use Rattle.sp_core.specs.Values.{is_true}
use Rattle.sp_eval.specs.Settings.{IsSetting, proper_at, sizes, tree_value}
use Rattle.sp_eval.proofs.Nodes.{nodes-Look, nodes-New, nodes-Param, nodes-part}
use Rattle.sp_eval.proofs.Ready.{every_value, fails_at, few_values, holds_each, left_operand, look_args, look_place, new_args, new_place, param_args, param_within, ready_body, ready_part, right_operand, variable_within}
use Rattle.sp_eval.proofs.Own.{derivation_falls, gives_both, gives_derivation, gives_initial, gives_operation, found, initial_nodes, place_is_read, ready_derivation, ready_initial}
use Rattle.sp_eval.proofs.evaluator.Evaluator.+eval.Goals as goal

pub arguments-value-requires : goal.arguments-value-requires
arguments-value-requires g t c = λ κs h. (
  omega (arith, nodes-part c.args.parts.now c.loop-part.part-index c.part-item.result c.loop-part-test.true c.part-item.is),
  (h.0, (h.1, ready_part c.args.self.now c.args.bound c.args.env.now c.args.parts.now c.loop-part.part-index c.part-item.result c.requires.ready c.loop-part-test.true c.part-item.is)),
)

pub arguments-push-requires : goal.arguments-push-requires
arguments-push-requires g t c = few_values c.args.self.now c.args.bound c.args.env.now c.args.parts.now c.loop-part.part-index c.loop-part.args c.loop-part.invariant c.loop-part-test.true c.requires.few

pub holds_for_each-value-requires : goal.holds_for_each-value-requires
holds_for_each-value-requires g t c =
    λ κs h. (omega arith, (h.0, (h.1, ready_body c.args.self.now c.args.bound c.args.env.now c.args.ty (tree c.args.body.now) c.loop-number.number c.proper.result c.requires (subst (λ n. c.loop-number.number < n) c.population-number-end.ensures c.loop-number-test.true) c.proper.ensures c.with.result c.with.ensures)))

pub holds_for_each-returns-then-not-is_true : goal.holds_for_each-returns-then-not-is_true
holds_for_each-returns-then-not-is_true g t c =
    let at : c.with.result ≡ c.args.env.now ++ proper_at c.args.ty c.loop-number.number ∷ [] = c.with.ensures ∙ ap (λ v. c.args.env.now ++ v ∷ []) c.proper.ensures in
    fails_at (sizes c.args.self.now) c.args.ty (λ v. is_true (tree_value c.args.self.now (c.args.env.now ++ v ∷ []) (tree c.args.body.now))) c.population-number-end.result c.population-number-end.ensures c.loop-number.number c.loop-number-test.true
    (ap (λ y. is_true (tree_value c.args.self.now y (tree c.args.body.now))) (sym at) ∙ ap is_true (sym c.value.ensures) ∙ sym c.is_true.ensures ∙ c.if-not-is_true.true)

pub holds_for_each-returns : goal.holds_for_each-returns
holds_for_each-returns g t c =
    holds_each (sizes c.args.self.now) c.args.ty (λ v. is_true (tree_value c.args.self.now (c.args.env.now ++ v ∷ []) (tree c.args.body.now))) c.population-number-end.result c.population-number-end.ensures (λ j l. c.loop-number.invariant j (omega (arith, l)))

pub look-value-requires : goal.look-value-requires
look-value-requires g t c =
    let there = found c.args.self.now c.args.place.now.fun c.args.place.now.args c.index-functions-place.result c.functions.result.now c.requires.read (c.functions.ensures.value ∙ ap (λ s. s.parts.functions) c.self.view_is) c.index-functions-place.is in
    let kind = (ap (λ f. f.kind) c.index-functions-place.is ∙ c.in-Primitive.is) in
    λ κs h. (omega (arith, initial_nodes c.args.self.now (subst IsSetting c.self.view_is c.self.invariant) c.args.place.now.fun c.index-functions-place.result there c.in-Primitive.field-0 c.in-Primitive.initial kind), (h.0, (h.1, ready_initial c.args.self.now (subst IsSetting c.self.view_is c.self.invariant) c.args.place.now.fun c.index-functions-place.result there c.in-Primitive.field-0 c.in-Primitive.initial kind c.args.place.now.args c.new-env.result c.requires.read c.new-env.ensures)))

pub look-value-requires-in-Derived : goal.look-value-requires-in-Derived
look-value-requires-in-Derived g t c =
    let there = found c.args.self.now c.args.place.now.fun c.args.place.now.args c.index-functions-place.result c.functions.result.now c.requires.read (c.functions.ensures.value ∙ ap (λ s. s.parts.functions) c.self.view_is) c.index-functions-place.is in
    let kind = (ap (λ f. f.kind) c.index-functions-place.is ∙ c.in-Derived.is) in
    λ κs h. (omega (arith, derivation_falls c.args.self.now (subst IsSetting c.self.view_is c.self.invariant) c.args.place.now.fun c.index-functions-place.result there c.in-Derived.field-0 c.in-Derived.derivation kind c.args.bound c.requires.rank), (h.0, (h.1, ready_derivation c.args.self.now (subst IsSetting c.self.view_is c.self.invariant) c.args.place.now.fun c.index-functions-place.result there c.in-Derived.field-0 c.in-Derived.derivation kind c.args.place.now.args c.new-env.result c.requires.read c.new-env.ensures)))

pub look-returns-in-None : goal.look-returns-in-None
look-returns-in-None g t c =
    let there = found c.args.self.now c.args.place.now.fun c.args.place.now.args c.index-functions-place.result c.functions.result.now c.requires.read (c.functions.ensures.value ∙ ap (λ s. s.parts.functions) c.self.view_is) c.index-functions-place.is in
    let none = ap (λ s. entry_of s.old c.args.place.now.fun c.args.place.now.args) (sym c.self.view_is) ∙ sym c.find.ensures ∙ c.in-None.is in
    gives_initial c.args.self.now (subst IsSetting c.self.view_is c.self.invariant) c.args.place.now.fun c.index-functions-place.result there c.in-Primitive.field-0 c.in-Primitive.initial (ap (λ f. f.kind) c.index-functions-place.is ∙ c.in-Primitive.is) (entry_of c.args.self.now.old) c.args.place.now.args c.new-env.result none c.new-env.ensures c.value.result c.value.ensures

pub look-returns-in-Derived : goal.look-returns-in-Derived
look-returns-in-Derived g t c =
    let there = found c.args.self.now c.args.place.now.fun c.args.place.now.args c.index-functions-place.result c.functions.result.now c.requires.read (c.functions.ensures.value ∙ ap (λ s. s.parts.functions) c.self.view_is) c.index-functions-place.is in
    gives_derivation c.args.self.now (subst IsSetting c.self.view_is c.self.invariant) c.args.place.now.fun c.index-functions-place.result there c.in-Derived.field-0 c.in-Derived.derivation (ap (λ f. f.kind) c.index-functions-place.is ∙ c.in-Derived.is) c.args.place.now.args c.new-env.result c.new-env.ensures c.value-in-Derived.result c.value-in-Derived.ensures

pub look-returns-in-Operation : goal.look-returns-in-Operation
look-returns-in-Operation g t c =
    let there = found c.args.self.now c.args.place.now.fun c.args.place.now.args c.index-functions-place.result c.functions.result.now c.requires.read (c.functions.ensures.value ∙ ap (λ s. s.parts.functions) c.self.view_is) c.index-functions-place.is in
    gives_operation c.args.self.now (subst IsSetting c.self.view_is c.self.invariant) c.args.place.now.fun c.index-functions-place.result there (entry_of c.args.self.now.old) _ (ap (λ f. f.kind) c.index-functions-place.is ∙ c.in-Operation.is) c.args.place.now.args

pub look-returns-in-Both : goal.look-returns-in-Both
look-returns-in-Both g t c =
    let there = found c.args.self.now c.args.place.now.fun c.args.place.now.args c.index-functions-place.result c.functions.result.now c.requires.read (c.functions.ensures.value ∙ ap (λ s. s.parts.functions) c.self.view_is) c.index-functions-place.is in
    gives_both c.args.self.now (subst IsSetting c.self.view_is c.self.invariant) c.args.place.now.fun c.index-functions-place.result there (entry_of c.args.self.now.old) _ _ (ap (λ f. f.kind) c.index-functions-place.is ∙ c.in-Both.is) c.args.place.now.args

pub look_new-value-requires : goal.look_new-value-requires
look_new-value-requires g t c =
    let read = place_is_read c.args.self.now c.args.place.now.fun c.args.place.now.args c.requires.place in
    let there = found c.args.self.now c.args.place.now.fun c.args.place.now.args c.index-functions-place.result c.functions.result.now read (c.functions.ensures.value ∙ ap (λ s. s.parts.functions) c.self.view_is) c.index-functions-place.is in
    let kind = (ap (λ f. f.kind) c.index-functions-place.is ∙ c.in-Primitive.is) in
    λ κs h. (omega (arith, initial_nodes c.args.self.now (subst IsSetting c.self.view_is c.self.invariant) c.args.place.now.fun c.index-functions-place.result there c.in-Primitive.field-0 c.in-Primitive.initial kind), (h.0, (h.1, ready_initial c.args.self.now (subst IsSetting c.self.view_is c.self.invariant) c.args.place.now.fun c.index-functions-place.result there c.in-Primitive.field-0 c.in-Primitive.initial kind c.args.place.now.args c.new-env.result read c.new-env.ensures)))

pub look_new-returns-in-None : goal.look_new-returns-in-None
look_new-returns-in-None g t c =
    let read = place_is_read c.args.self.now c.args.place.now.fun c.args.place.now.args c.requires.place in
    let there = found c.args.self.now c.args.place.now.fun c.args.place.now.args c.index-functions-place.result c.functions.result.now read (c.functions.ensures.value ∙ ap (λ s. s.parts.functions) c.self.view_is) c.index-functions-place.is in
    let none = ap (λ s. entry_of s.new c.args.place.now.fun c.args.place.now.args) (sym c.self.view_is) ∙ sym c.find.ensures ∙ c.in-None.is in
    gives_initial c.args.self.now (subst IsSetting c.self.view_is c.self.invariant) c.args.place.now.fun c.index-functions-place.result there c.in-Primitive.field-0 c.in-Primitive.initial (ap (λ f. f.kind) c.index-functions-place.is ∙ c.in-Primitive.is) (entry_of c.args.self.now.new) c.args.place.now.args c.new-env.result none c.new-env.ensures c.value.result c.value.ensures

pub value-variable-requires : goal.value-variable-requires
value-variable-requires g t c = variable_within c.args.self.now c.args.bound c.args.env.now c.in-Var.k c.args.e.now c.requires c.in-Var.is

pub value-operate-requires-clause-left : goal.value-operate-requires-clause-left
value-operate-requires-clause-left g t c = left_operand c.args.self.now c.args.bound c.args.env.now (subst IsSetting c.self.view_is c.self.invariant) c.in-Two.op c.args.e.now c.in-Two.a c.in-Two.b c.get-in-Two.result.now c.requires c.in-Two.is c.get-in-Two.ensures c.value-x.result c.value-x.ensures

pub value-operate-requires-clause-right : goal.value-operate-requires-clause-right
value-operate-requires-clause-right g t c = right_operand c.args.self.now c.args.bound c.args.env.now (subst IsSetting c.self.view_is c.self.invariant) c.in-Two.op c.args.e.now c.in-Two.a c.in-Two.b c.get-in-Two-2.result.now c.requires c.in-Two.is c.get-in-Two-2.ensures c.value-y.result c.value-y.ensures

pub value-arguments-args-requires : goal.value-arguments-args-requires
value-arguments-args-requires g t c =
    λ κs h. (omega (arith, nodes-Param c.in-Param.p c.args.e.now c.in-Param.parts c.as_slice.result.now c.in-Param.is c.as_slice.ensures), (h.0, (h.1, param_args c.args.self.now c.args.bound c.args.env.now (subst IsSetting c.self.view_is c.self.invariant) c.in-Param.p c.args.e.now c.in-Param.parts c.as_slice.result.now c.requires c.in-Param.is c.as_slice.ensures)))

pub value-param-requires : goal.value-param-requires
value-param-requires g t c =
    subst (λ s. c.in-Param.p < length s.instance.tables) (sym c.self.view_is) (param_within c.args.self.now c.args.bound c.args.env.now (subst IsSetting c.self.view_is c.self.invariant) c.in-Param.p c.args.e.now c.in-Param.parts c.requires c.in-Param.is)

pub value-arguments-args-requires-in-Look : goal.value-arguments-args-requires-in-Look
value-arguments-args-requires-in-Look g t c =
    λ κs h. (omega (arith, nodes-Look c.in-Look.g c.args.e.now c.in-Look.parts c.as_slice-in-Look.result.now c.in-Look.is c.as_slice-in-Look.ensures), (h.0, (h.1, look_args c.args.self.now c.args.bound c.args.env.now (subst IsSetting c.self.view_is c.self.invariant) c.in-Look.g c.args.e.now c.in-Look.parts c.as_slice-in-Look.result.now c.requires c.in-Look.is c.as_slice-in-Look.ensures)))

pub value-look-requires : goal.value-look-requires
value-look-requires g t c =
    λ κs h. (omega (arith, nodes-Look c.in-Look.g c.args.e.now c.in-Look.parts c.as_slice-in-Look.result.now c.in-Look.is c.as_slice-in-Look.ensures), (h.0, (h.1, look_place c.args.self.now c.args.bound c.args.env.now (subst IsSetting c.self.view_is c.self.invariant) c.in-Look.g c.args.e.now c.in-Look.parts c.as_slice-in-Look.result.now c.requires c.in-Look.is c.as_slice-in-Look.ensures c.arguments-args-in-Look.result c.arguments-args-in-Look.ensures)))

pub value-arguments-args-requires-in-New : goal.value-arguments-args-requires-in-New
value-arguments-args-requires-in-New g t c =
    λ κs h. (omega (arith, nodes-New c.in-New.g c.args.e.now c.in-New.parts c.as_slice-in-New.result.now c.in-New.is c.as_slice-in-New.ensures), (h.0, (h.1, new_args c.args.self.now c.args.bound c.args.env.now (subst IsSetting c.self.view_is c.self.invariant) c.in-New.g c.args.e.now c.in-New.parts c.as_slice-in-New.result.now c.requires c.in-New.is c.as_slice-in-New.ensures)))

pub value-look_new-requires : goal.value-look_new-requires
value-look_new-requires g t c =
    λ κs h. (omega (arith, nodes-New c.in-New.g c.args.e.now c.in-New.parts c.as_slice-in-New.result.now c.in-New.is c.as_slice-in-New.ensures), (h.0, (h.1, new_place c.args.self.now c.args.bound c.args.env.now (subst IsSetting c.self.view_is c.self.invariant) c.in-New.g c.args.e.now c.in-New.parts c.as_slice-in-New.result.now c.requires c.in-New.is c.as_slice-in-New.ensures c.arguments-args-in-New.result c.arguments-args-in-New.ensures)))

pub value-returns-in-Every : goal.value-returns-in-Every
value-returns-in-Every g t c = every_value c.args.self.now c.args.bound c.args.env.now c.in-Every.field-0 c.in-Every.ty c.args.e.now c.in-Every.body c.get-in-Every.result.now c.requires c.in-Every.is c.get-in-Every.ensures c.holds_for_each.result c.holds_for_each.ensures
