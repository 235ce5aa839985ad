use Rattle.std.proofs.Common.{sym, subst, arith}
use Rattle.std.specs.Prelude.{IfErr, IfOk}
use Rattle.sp_prover.specs.Deciding.{Decides, IsRefused, LeavesFew}
use Rattle.sp_prover.proofs.Finding.{few_left, found_decided, found_few, not_refused}
use Rattle.sp_prover.proofs.deciding.decide_places.Goals as goal

pub returns-clause-decides : goal.returns-clause-decides
returns-clause-decides c =
    let s = c.args.facts.now in
    subst (λ r. IfOk r (λ e. Decides s.question e)) (sym c.or_memory.ensures) (found_decided s c.requires.none c.explore.result c.explore.ensures.finds)

pub returns-clause-refused : goal.returns-clause-refused
returns-clause-refused c =
    let s = c.args.facts.now in
    subst (λ r. IfErr r (λ f. IsRefused s.question f)) (sym c.or_memory.ensures) (not_refused s c.explore.result)

pub returns-clause-few : goal.returns-clause-few
returns-clause-few c =
    let s = c.args.facts.now in
    subst (λ r. IfOk r (λ e. LeavesFew s.question)) (sym c.or_memory.ensures)
    (found_few s (few_left s c.requires.none c.args.places.now c.requires.undetermined (omega (arith, c.if-places-gt-MOST_ATOMS.false))) c.explore.result)
