use Rattle.std.proofs.Common.{subst}
use Rattle.std.specs.Prelude.{IfErr, IfOk}
use Rattle.sp_saturate.specs.Situations.{Situation}
use Rattle.sp_prover.specs.Deciding.{Decides, IsRefused, LeavesFew}
use Rattle.sp_prover.proofs.deciding.decide_root.Goals as goal

pub returns-in-Ok-clause-decides : goal.returns-in-Ok-clause-decides
returns-in-Ok-clause-decides c = subst (λ (s : Situation). IfOk c.decide_facts.result (λ e. Decides s.question e)) c.in-Ok.ensures c.decide_facts.ensures.decides

pub returns-in-Ok-clause-few : goal.returns-in-Ok-clause-few
returns-in-Ok-clause-few c = subst (λ (s : Situation). IfOk c.decide_facts.result (λ e. LeavesFew s.question)) c.in-Ok.ensures c.decide_facts.ensures.few

pub returns-in-Ok-clause-refused : goal.returns-in-Ok-clause-refused
returns-in-Ok-clause-refused c = subst (λ (s : Situation). IfErr c.decide_facts.result (λ f. IsRefused s.question f)) c.in-Ok.ensures c.decide_facts.ensures.refused
