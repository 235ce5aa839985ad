use Rattle.std.proofs.Common.{sym, subst}
use Rattle.std.proofs.lemmas.List.{append-nil}
use Rattle.sp_core.specs.Instances.{filling_of, machine_of}
use Rattle.sp_core.specs.Machine.{IsState}
use Rattle.sp_core.specs.States.{entry_of}
use Rattle.sp_eval_examples.proofs.tests.over_changes.Goals as goal

pub eval_over-requires-clause-old : goal.eval_over-requires-clause-old
eval_over-requires-clause-old c = record { entries = λ g v x e. cc }

pub eval_over-requires-clause-new : goal.eval_over-requires-clause-new
eval_over-requires-clause-new c = subst (λ es. IsState (machine_of c.args.spec.now (filling_of c.args.inst.now)) (entry_of es)) (sym (append-nil c.args.changes.now.entries)) c.requires.changes
