use Rattle.std.proofs.Common.{subst}
use Rattle.std.specs.Prelude.{IfErr, IfOk}
use Rattle.sp_rules.specs.Questions.{Question}
use Rattle.sp_prover.specs.Deciding.{Decides, IsRefused, LeavesFew}
use Rattle.sp_prover.proofs.deciding.decide_sequent.Goals as goal

pub returns-in-Ok-clause-decides : goal.returns-in-Ok-clause-decides
returns-in-Ok-clause-decides c = subst (λ (q : Question). IfOk c.decide_root.result (λ e. Decides q e)) c.in-Ok.ensures c.decide_root.ensures.decides

pub returns-in-Ok-clause-few : goal.returns-in-Ok-clause-few
returns-in-Ok-clause-few c = subst (λ (q : Question). IfOk c.decide_root.result (λ e. LeavesFew q)) c.in-Ok.ensures c.decide_root.ensures.few

pub returns-in-Ok-clause-refused : goal.returns-in-Ok-clause-refused
returns-in-Ok-clause-refused c = subst (λ (q : Question). IfErr c.decide_root.result (λ f. IsRefused q f)) c.in-Ok.ensures c.decide_root.ensures.refused
