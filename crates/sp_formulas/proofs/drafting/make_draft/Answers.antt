use Rattle.std.proofs.Common.{sym, ap, ◌∙◌, subst, arith, ◌^◌, length, map}
use Rattle.std.specs.Prelude.{All}
use Rattle.std.proofs.lemmas.Result.{err_from_is_err_and}
use Rattle.sp_core.specs.Tree.{tree}
use Rattle.sp_formulas.specs.Assertions.{IsTooMany, instances}
use Rattle.sp_formulas.specs.Generated.{about_of, formula_of, goal_tree}
use Rattle.sp_formulas.specs.Moves.{IsBelow, settle}
use Rattle.sp_formulas.proofs.DraftLemmas.{assertions_low, drafted, few_over, goal_low, goal_refused, hyps_low, too_many_instances, types_are}
use Rattle.sp_formulas.proofs.drafting.make_draft.Goals as goal

pub instances-requires-clause-room : goal.instances-requires-clause-room
instances-requires-clause-room c =
    omega (arith, few_over c.args.spec.now (about_of c.args.subject.now) c.args.subject.now.known c.args.bound.now c.args.hyps.now (goal_tree c.args.goal.now) c.requires.typed, ap length (c.deref.ensures.value ∙ c.in-Ok.ensures))

pub instances-requires-clause-low : goal.instances-requires-clause-low
instances-requires-clause-low c = subst (All (λ a. IsBelow (2 ^ 31) (tree a.body))) (sym c.assertions.ensures.value) (assertions_low c.args.spec.now c.assertions.ensures.well_formed)

pub returns-in-Err-TooMany-clause-err : goal.returns-in-Err-TooMany-clause-err
returns-in-Err-TooMany-clause-err c =
    let o = about_of c.args.subject.now in
    let f = formula_of c.args.spec.now c.args.subject.now c.args.bound.now c.args.hyps.now c.args.goal.now in
    let many = subst (IsTooMany (length (instances c.assertions.result.now c.deref.result.now))) c.in-Err-TooMany.field-0-is c.in-Err-TooMany.ensures.many in
    let types = c.deref.ensures.value ∙ c.in-Ok.ensures ∙ sym (types_are o c.args.bound.now) in
    too_many_instances c.args.spec.now c.args.number f c.requires.few (omega (arith, many, ap length (λ i. instances (c.assertions.ensures.value i) (types i))))

pub hypotheses-requires-clause-room : goal.hypotheses-requires-clause-room
hypotheses-requires-clause-room c =
    omega (arith, few_over c.args.spec.now (about_of c.args.subject.now) c.args.subject.now.known c.args.bound.now c.args.hyps.now (goal_tree c.args.goal.now) c.requires.typed, ap length (c.deref-2.ensures.value ∙ c.in-Ok.ensures))

pub hypotheses-requires-clause-low : goal.hypotheses-requires-clause-low
hypotheses-requires-clause-low c = hyps_low c.args.spec.now (about_of c.args.subject.now) c.args.subject.now.known c.args.bound.now c.args.hyps.now (goal_tree c.args.goal.now) c.requires.typed

pub goal_within-requires-clause-room : goal.goal_within-requires-clause-room
goal_within-requires-clause-room c =
    omega (arith, few_over c.args.spec.now (about_of c.args.subject.now) c.args.subject.now.known c.args.bound.now c.args.hyps.now (goal_tree c.args.goal.now) c.requires.typed, ap length (c.deref-3.ensures.value ∙ c.in-Ok.ensures))

pub goal_within-requires-clause-low : goal.goal_within-requires-clause-low
goal_within-requires-clause-low c = goal_low c.args.spec.now (about_of c.args.subject.now) c.args.subject.now.known c.args.bound.now c.args.hyps.now (goal_tree c.args.goal.now) c.requires.typed

pub returns-in_err-goal-clause-err : goal.returns-in_err-goal-clause-err
returns-in_err-goal-clause-err c =
    let p = err_from_is_err_and c.from_residual-in_err-goal.result c.from_residual-in_err-goal.ensures.1 in
    let instanced = c.in-Ok-instances.ensures.ok ∙ (λ i. instances (c.assertions.ensures.value i) ((c.deref.ensures.value ∙ sym c.deref-2.ensures.value) i)) in
    rw (p.1, p.2) (goal_refused c.args.spec.now (about_of c.args.subject.now) c.args.subject.now.known c.args.bound.now c.args.hyps.now (goal_tree c.args.goal.now) c.requires.typed
    c.args.number c.requires.few c.deref-2.result.now (c.deref-2.ensures.value ∙ c.in-Ok.ensures) c.in-Ok-instances.instances.items instanced c.in-Ok-instances.ensures.within
    (map tree c.deref-4.result.now) (ap (map tree) c.deref-4.ensures.value ∙ c.in_ok-hyps.ensures.ok) c.in_err-goal.field-0.0 c.in_err-goal.ensures.err)

pub returns-clause-ok : goal.returns-clause-ok
returns-clause-ok c =
    let instanced = c.in-Ok-instances.ensures.ok ∙ (λ i. instances (c.assertions.ensures.value i) ((c.deref.ensures.value ∙ sym c.deref-2.ensures.value) i)) in
    drafted c.args.spec.now (about_of c.args.subject.now) c.args.subject.now.known c.args.bound.now c.args.hyps.now (goal_tree c.args.goal.now) c.requires.typed
    c.args.number c.requires.few c.deref-2.result.now (c.deref-2.ensures.value ∙ c.in-Ok.ensures) c.in-Ok-instances.instances.items instanced c.in-Ok-instances.ensures.within
    (map tree c.deref-4.result.now) (ap (map tree) c.deref-4.ensures.value ∙ c.in_ok-hyps.ensures.ok)
    (record { hyps = c.in_ok-hyps.hyps; goal = c.in_ok-goal.goal }) (sym (ap (map tree) c.deref-4.ensures.value)) (c.in_ok-goal.ensures.ok ∙ ap (λ x. settle (length x) (goal_tree c.args.goal.now)) (c.deref-3.ensures.value ∙ sym c.deref-2.ensures.value)) c.in_ok-goal.ensures.few
