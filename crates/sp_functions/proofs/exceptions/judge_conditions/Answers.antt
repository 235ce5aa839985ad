use Rattle.std.proofs.Common.{◌∙◌, ap, take}
use Rattle.std.specs.List.{flat_map}
use Rattle.sp_text.specs.Violations.{first}
use Rattle.sp_naming.proofs.Gathering.{gather_next}
use Rattle.sp_functions.specs.Exceptions.{condition_broken}
use Rattle.sp_functions.proofs.exceptions.judge_conditions.Goals as goal

pub loop-exception-preserved : goal.loop-exception-preserved
loop-exception-preserved c =
    let rule = condition_broken c.args.scope.now c.args.formals.now in
    let xs = c.args.exceptions.now in
    let i = c.loop-exception.exception-index in
    let x = c.exception-item.result in
    c.earlier-found.ensures (flat_map rule (take i xs)) (rule x) c.loop-exception.invariant c.in_ok-judge_condition.ensures ∙ ap first (gather_next rule xs i x c.loop-exception-test.true c.exception-item.is)
