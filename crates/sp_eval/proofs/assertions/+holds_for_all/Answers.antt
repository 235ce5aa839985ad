use Rattle.std.proofs.Common.{◌<◌, ◌++◌, ◌∷◌, [], ◌-◌, length, take, drop, arith, refl, sym, ap, ◌∙◌, subst}
use Rattle.sp_core.specs.Machine.{types_of}
use Rattle.sp_core.specs.Tree.{tree}
use Rattle.sp_eval.specs.Admissible.{HoldsForAll, IsClaim}
use Rattle.sp_eval.specs.Settings.{world}
use Rattle.sp_eval.proofs.Claims.{claim_rest, first_type, holds_all, holds_none, holds_rest, no_types, ready_claim}
use Rattle.sp_eval.proofs.assertions.+holds_for_all.Goals as goal

pub value-requires : goal.value-requires
value-requires t c = ready_claim c.args.evaluator.now (types_of c.args.vars.now) c.args.env.now (tree c.args.body.now) (no_types c.args.vars.now c.in_default.len_below) c.requires

pub returns-in_default : goal.returns-in_default
returns-in_default t c = holds_none c.args.evaluator.now (types_of c.args.vars.now) c.args.env.now (tree c.args.body.now) (no_types c.args.vars.now c.in_default.len_below) c.requires c.value.result c.value.ensures c.is_true.result c.is_true.ensures

pub holds_for_all-requires : goal.holds_for_all-requires
holds_for_all-requires t c =
    let types = first_type c.args.vars.now c.first-item.result c.in-len1-up.len_at_least c.first-item.is in
    let rest = types_of (take (length c.args.vars.now - 1) (drop 1 c.args.vars.now)) in
    let within = subst (λ n. c.loop-number.number < n) c.population-number-end.ensures c.loop-number-test.true in
    let env = c.with-inner.ensures ∙ ap (λ v. c.args.env.now ++ v ∷ []) c.proper.ensures in (
      omega arith,
      subst (λ y. IsClaim c.args.evaluator.now rest y (tree c.args.body.now)) (sym env)
          (claim_rest c.args.evaluator.now c.first-item.result.ty rest c.args.env.now (tree c.args.body.now) c.loop-number.number (subst (λ ts. IsClaim c.args.evaluator.now ts c.args.env.now (tree c.args.body.now)) types c.requires) within),
    )

pub returns-then-not-holds_for_all : goal.returns-then-not-holds_for_all
returns-then-not-holds_for_all t c =
    let types = first_type c.args.vars.now c.first-item.result c.in-len1-up.len_at_least c.first-item.is in
    let rest = types_of (take (length c.args.vars.now - 1) (drop 1 c.args.vars.now)) in
    let within = subst (λ n. c.loop-number.number < n) c.population-number-end.ensures c.loop-number-test.true in
    let env = c.with-inner.ensures ∙ ap (λ v. c.args.env.now ++ v ∷ []) c.proper.ensures in (
      λ e. cc,
      λ all. sym c.if-not-holds_for_all.true ∙ c.holds_for_all.ensures.1 (subst (λ y. HoldsForAll (world c.args.evaluator.now) rest y (tree c.args.body.now)) (sym env)
          (holds_rest (world c.args.evaluator.now) c.first-item.result.ty rest c.args.env.now (tree c.args.body.now) c.loop-number.number within (subst (λ ts. HoldsForAll (world c.args.evaluator.now) ts c.args.env.now (tree c.args.body.now)) types all))),
    )

pub returns : goal.returns
returns t c =
    let types = first_type c.args.vars.now c.first-item.result c.in-len1-up.len_at_least c.first-item.is in
    let rest = types_of (take (length c.args.vars.now - 1) (drop 1 c.args.vars.now)) in (
      λ e. subst (λ ts. HoldsForAll (world c.args.evaluator.now) ts c.args.env.now (tree c.args.body.now)) (sym types)
          (holds_all (world c.args.evaluator.now) c.first-item.result.ty rest c.args.env.now (tree c.args.body.now) c.population-number-end.result c.population-number-end.ensures (λ j l. c.loop-number.invariant j (omega (arith, l)))),
      λ all. refl,
    )
