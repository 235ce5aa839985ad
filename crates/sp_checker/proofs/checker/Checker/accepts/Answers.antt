use Rattle.std.proofs.Common.{ap, ◌∙◌}
use Rattle.sp_rules.specs.Questions.{Question}
use Rattle.sp_cert.specs.Tree.{tree}
use Rattle.sp_checker.specs.Accepting.{answer, outcome}
use Rattle.sp_checker.proofs.checker.Checker.accepts.Goals as goal

pub returns-clause-answer : goal.returns-clause-answer
returns-clause-answer c = c.outcome.ensures ∙ ap outcome c.fault_for-fault.ensures.fault ∙ ap (λ (q : Question). answer q (tree c.args.cert.now)) c.self.view_is
