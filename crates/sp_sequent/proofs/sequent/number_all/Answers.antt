use Rattle.std.proofs.Common.{◌≡◌, sym, ap, ◌∙◌, subst, arith, ◌≤◌, length, map}
use Rattle.std.specs.Prelude.{All}
use Rattle.std.proofs.lemmas.List.{length-map}
use Rattle.std.proofs.lemmas.Result.{err_from_is_err_and}
use Rattle.sp_values.specs.declared.value.Ty.TheVariants as ty
use Rattle.sp_core.specs.Machine.{types_of}
use Rattle.sp_core.specs.Parts.{signature}
use Rattle.sp_core.specs.Tree.{tree}
use Rattle.sp_core.specs.declared.function.Formal.{Formal}
use Rattle.sp_sequent.specs.Claims.{claim_of}
use Rattle.sp_sequent.specs.Limits.{formula_terms}
use Rattle.sp_sequent.specs.Numbers.{IsShort, IsTooMany, Reached}
use Rattle.sp_sequent.specs.OwnTypes.{atoms_from, is_level}
use Rattle.sp_sequent.proofs.Inserting.{front_refused, goal_refused}
use Rattle.sp_sequent.proofs.Sequencing.{are_terms, numbers_are, pool_is}
use Rattle.sp_sequent.proofs.Short.{all_short, short}
use Rattle.sp_sequent.proofs.sequent.number_all.Goals as goal

pub insert_each-requires-clause-short : goal.insert_each-requires-clause-short
insert_each-requires-clause-short c =
    let f = c.args.f.now in
    let few : length (types_of f.vars) ≤ 65536 = omega (arith, length-map f.vars (λ (v : Formal). v.ty), f.few_variables) in
    subst (All (λ e. IsShort (tree e))) (sym c.items.ensures) (all_short c.args.spec.now c.lattice.ensures.well_formed (types_of f.vars) few f.hyps c.requires.typed.hypotheses)

pub insert-requires-clause-short : goal.insert-requires-clause-short
insert-requires-clause-short c =
    let f = c.args.f.now in
    let few : length (types_of f.vars) ≤ 65536 = omega (arith, length-map f.vars (λ (v : Formal). v.ty), f.few_variables) in
    short c.args.spec.now c.lattice.ensures.well_formed (types_of f.vars) few (tree f.goal) ty.Boolean c.requires.typed.goal

pub returns-in_err-hyps-clause-full : goal.returns-in_err-hyps-clause-full
returns-in_err-hyps-clause-full c =
    let p = err_from_is_err_and c.from_residual.result c.from_residual.ensures.1 in
    rw (p.1, p.2) (subst (λ es. IsTooMany (formula_terms (map tree es) (tree c.args.f.now.goal)) c.in_err-hyps.field-0.0) c.items.ensures
    (front_refused (map (λ r. tree r.now) c.args.terms.now.items) c.requires.truths (map tree c.items.result.now) (tree c.args.f.now.goal) c.in_err-hyps.field-0.0 c.in_err-hyps.ensures.full))

pub returns-in_err-goal-clause-full : goal.returns-in_err-goal-clause-full
returns-in_err-goal-clause-full c =
    let p = err_from_is_err_and c.from_residual-in_err-goal.result c.from_residual-in_err-goal.ensures.1 in
    rw (p.1, p.2) (subst (λ es. IsTooMany (formula_terms (map tree es) (tree c.args.f.now.goal)) c.in_err-goal.field-0.0) c.items.ensures
    (goal_refused (map (λ r. tree r.now) c.args.terms.now.items) c.requires.truths (map tree c.items.result.now) (tree c.args.f.now.goal) (map (λ r. tree r.now) c.insert_each.new.terms.items) c.in_err-goal.field-0.0 c.in_ok-hyps.ensures.ok.grown c.in_err-goal.ensures.full))

pub returns-clause-pool : goal.returns-clause-pool
returns-clause-pool c =
    let before = map (λ r. tree r.now) c.args.terms.now.items in
    let ts = map (λ r. tree r.now) c.insert_each.new.terms.items in
    let ks = map (λ t. t.0) c.in_ok-hyps.hyps.items in
    let reached = subst (λ es. Reached before c.insert_each.new.pool ts ks (map tree es)) c.items.ensures c.in_ok-hyps.ensures.ok in
    pool_is c.args.spec.now (claim_of c.args.f.now) before ts (map (λ r. tree r.now) c.insert.new.terms.items) c.requires.truths c.insert_each.new.pool c.insert.new.pool ks c.in_ok-goal.goal.0 reached c.in_ok-goal.ensures.ok

pub returns-clause-numbers : goal.returns-clause-numbers
returns-clause-numbers c =
    let before = map (λ r. tree r.now) c.args.terms.now.items in
    let ts = map (λ r. tree r.now) c.insert_each.new.terms.items in
    let ks = map (λ t. t.0) c.in_ok-hyps.hyps.items in
    let reached = subst (λ es. Reached before c.insert_each.new.pool ts ks (map tree es)) c.items.ensures c.in_ok-hyps.ensures.ok in
    let sg = signature c.args.spec.now in
    numbers_are c.args.spec.now (claim_of c.args.f.now) before ts (map (λ r. tree r.now) c.insert.new.terms.items) c.requires.truths c.insert_each.new.pool c.insert.new.pool ks c.in_ok-goal.goal.0 reached c.in_ok-goal.ensures.ok
    (map (λ t. t.0) c.in_ok-atoms.atoms.items) c.in_ok-levels.levels.items
    (c.in_ok-atoms.ensures.ok ∙ (λ i. atoms_from sg (types_of (c.items-3.ensures i)) 0 (map (λ r. tree r.now) (c.deref-2.ensures.value i))))
    (c.in_ok-levels.ensures.ok ∙ (λ i. map (is_level sg (types_of (c.items-2.ensures i))) (map (λ r. tree r.now) (c.deref.ensures.value i))))

pub invariant_of-result : goal.invariant_of-result
invariant_of-result c =
    let before = map (λ r. tree r.now) c.args.terms.now.items in
    let ts = map (λ r. tree r.now) c.insert_each.new.terms.items in
    let ks = map (λ t. t.0) c.in_ok-hyps.hyps.items in
    let reached = subst (λ es. Reached before c.insert_each.new.pool ts ks (map tree es)) c.items.ensures c.in_ok-hyps.ensures.ok in
    let sg = signature c.args.spec.now in
    are_terms c.args.spec.now (claim_of c.args.f.now) before ts (map (λ r. tree r.now) c.insert.new.terms.items) c.requires.truths c.insert_each.new.pool c.insert.new.pool ks c.in_ok-goal.goal.0 reached c.in_ok-goal.ensures.ok
    (map (λ t. t.0) c.in_ok-atoms.atoms.items) c.in_ok-levels.levels.items
    (c.in_ok-atoms.ensures.ok ∙ (λ i. atoms_from sg (types_of (c.items-3.ensures i)) 0 (map (λ r. tree r.now) (c.deref-2.ensures.value i))))
    (c.in_ok-levels.ensures.ok ∙ (λ i. map (is_level sg (types_of (c.items-2.ensures i))) (map (λ r. tree r.now) (c.deref.ensures.value i))))
