use Rattle.std.proofs.Common.{sym, subst}
use Rattle.std.specs.Prelude.{All}
use Rattle.sp_values.specs.declared.value.Ty.TheVariants as ty
use Rattle.sp_core.specs.Machine.{types_of}
use Rattle.sp_core.specs.Parts.{signature}
use Rattle.sp_core.specs.Tree.{tree}
use Rattle.sp_core.specs.Typing.{HasType}
use Rattle.sp_sequent.specs.Numbers.{IsShort}
use Rattle.sp_sequent.proofs.Short.{all_short, short}
use Rattle.sp_formulas.specs.Generated.{about_of, formula_of, goal_tree}
use Rattle.sp_formulas.proofs.DraftLemmas.{few_types}
use Rattle.sp_formulas.proofs.one.add.Goals as goal

pub fits-requires-clause-short : goal.fits-requires-clause-short
fits-requires-clause-short c =
    let p = c.args.spec.now in
    let f = formula_of p c.args.subject.now c.args.bound.now c.args.hyps.now c.args.goal.now in
    let few = few_types p (about_of c.args.subject.now) c.args.subject.now.known c.args.bound.now c.args.hyps.now (goal_tree c.args.goal.now) c.requires.typed in
    subst (All (λ e. IsShort (tree e))) (sym c.deref.ensures.value) (all_short p c.lattice.ensures.well_formed (types_of f.vars) few c.in_ok-made.made.hyps.items
    (subst (All (λ h. HasType (signature p) (types_of f.vars) h ty.Boolean)) (sym c.in_ok-made.ensures.ok.hypotheses) c.requires.typed.hypotheses))

pub fits-requires-clause-goal_short : goal.fits-requires-clause-goal_short
fits-requires-clause-goal_short c =
    let p = c.args.spec.now in
    let f = formula_of p c.args.subject.now c.args.bound.now c.args.hyps.now c.args.goal.now in
    let few = few_types p (about_of c.args.subject.now) c.args.subject.now.known c.args.bound.now c.args.hyps.now (goal_tree c.args.goal.now) c.requires.typed in
    short p c.lattice.ensures.well_formed (types_of f.vars) few (tree c.in_ok-made.made.goal) ty.Boolean
    (subst (λ e. HasType (signature p) (types_of f.vars) e ty.Boolean) (sym c.in_ok-made.ensures.ok.goal) c.requires.typed.goal)
