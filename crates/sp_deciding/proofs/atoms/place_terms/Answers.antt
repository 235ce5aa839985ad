use Rattle.std.proofs.Common.{◌≤◌, arith, length, map, subst, sym}
use Rattle.std.specs.Prelude.{All}
use Rattle.std.proofs.lemmas.List.{length-map}
use Rattle.sp_values.specs.declared.value.Ty.TheVariants as ty
use Rattle.sp_core.specs.Machine.{types_of}
use Rattle.sp_core.specs.Tree.{tree}
use Rattle.sp_core.specs.declared.function.Formal.{Formal}
use Rattle.sp_sequent.specs.Numbers.{IsShort, Reached}
use Rattle.sp_sequent.proofs.Inserting.{all_terms}
use Rattle.sp_sequent.proofs.Short.{all_short, short}
use Rattle.sp_deciding.proofs.atoms.place_terms.Goals as goal

pub insert_each-requires-clause-short : goal.insert_each-requires-clause-short
insert_each-requires-clause-short c =
    let f = c.args.formula.now in
    let few : length (types_of f.vars) ≤ 65536 = omega (arith, length-map f.vars (λ (v : Formal). v.ty), f.few_variables) in
    subst (All (λ e. IsShort (tree e))) (sym c.items.ensures) (all_short c.args.spec.now c.lattice.ensures.well_formed (types_of f.vars) few f.hyps c.requires.typed.hypotheses)

pub insert-requires-clause-short : goal.insert-requires-clause-short
insert-requires-clause-short c =
    let f = c.args.formula.now in
    let few : length (types_of f.vars) ≤ 65536 = omega (arith, length-map f.vars (λ (v : Formal). v.ty), f.few_variables) in
    short c.args.spec.now c.lattice.ensures.well_formed (types_of f.vars) few (tree f.goal) ty.Boolean c.requires.typed.goal

pub returns : goal.returns
returns c =
    let f = c.args.formula.now in
    let before = map (λ r. tree r.now) c.args.terms.now.items in
    let ts = map (λ r. tree r.now) c.insert_each.new.terms.items in
    let ks = map (λ t. t.0) c.in_ok-insert_each.field-0.items in
    let reached = subst (λ es. Reached before c.insert_each.new.pool ts ks (map tree es)) c.items.ensures c.in_ok-insert_each.ensures.ok in
    all_terms before c.requires.truths (map tree f.hyps) (tree f.goal) ts (map (λ r. tree r.now) c.insert.new.terms.items) reached.grown c.in_ok-insert.ensures.ok.grown
