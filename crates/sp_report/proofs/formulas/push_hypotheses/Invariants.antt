use Rattle.std.proofs.Common.{◌≡◌, ◌++◌, map, drop}
use Rattle.sp_core.specs.Tree.{tree}
use Rattle.sp_report.specs.Formulas.{hypothesis_lines}
use Rattle.sp_report.proofs.formulas.push_hypotheses.Given as goal

abbrev pub invariant-loop-hyp : goal.invariant-loop-hyp
invariant-loop-hyp l = l.fn.out.items ++ hypothesis_lines l.spec l.vars (map tree l.hyps) ≡ l.out.items ++ hypothesis_lines l.spec l.vars (map tree (drop l.hyp-index l.hyps))
