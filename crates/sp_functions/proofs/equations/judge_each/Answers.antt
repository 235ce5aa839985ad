use Rattle.std.proofs.Common.{◌∙◌, ap, take}
use Rattle.std.specs.List.{flat_map}
use Rattle.sp_text.specs.Violations.{first}
use Rattle.sp_naming.proofs.Gathering.{gather_next}
use Rattle.sp_functions.specs.Equations.{equation_broken}
use Rattle.sp_functions.proofs.equations.judge_each.Goals as goal

pub loop-equation-preserved : goal.loop-equation-preserved
loop-equation-preserved c =
    let rule = equation_broken c.args.scope.now in
    let xs = c.args.equations.now in
    let i = c.loop-equation.equation-index in
    let x = c.equation-item.result in
    c.earlier-found.ensures (flat_map rule (take i xs)) (rule x) c.loop-equation.invariant c.in_ok-judge_equation.ensures ∙ ap first (gather_next rule xs i x c.loop-equation-test.true c.equation-item.is)
