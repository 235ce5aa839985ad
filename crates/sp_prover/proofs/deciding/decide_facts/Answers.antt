use Rattle.std.proofs.Common.{sym, ◌∙◌, subst, inl}
use Rattle.std.specs.Prelude.{IfOk}
use Rattle.sp_prover.specs.Deciding.{Decides, LeavesFew}
use Rattle.sp_prover.proofs.Finding.{clashing, found_decided, found_few, some_clash}
use Rattle.sp_prover.proofs.deciding.decide_facts.Goals as goal

pub returns-then-is_some-clause-decides : goal.returns-then-is_some-clause-decides
returns-then-is_some-clause-decides c =
    let s = c.args.facts.now in
    subst (λ r. IfOk r (λ e. Decides s.question e)) (sym c.or_memory.ensures) (found_decided s c.requires.none c.leaf.result c.leaf.ensures)

pub returns-then-is_some-clause-few : goal.returns-then-is_some-clause-few
returns-then-is_some-clause-few c =
    let s = c.args.facts.now in
    let clash = some_clash s c.clash.result c.clash.ensures (sym c.is_some.ensures ∙ c.if-is_some.true) in
    subst (λ r. IfOk r (λ e. LeavesFew s.question)) (sym c.or_memory.ensures) (found_few s (inl (clashing s c.requires.none clash)) c.leaf.result)
