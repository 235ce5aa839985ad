use Rattle.std.proofs.Common.{◌≡◌, ◌++◌, ◌+◌, drop, map}
use Rattle.sp_formulas.specs.Formulas.{formula_as}
use Rattle.sp_verify_command.specs.Judged.{judgement_lines}
use Rattle.sp_verify_command.proofs.printed.push_judgements.Given as goal

-- the lines so far stand before those that are left
abbrev pub invariant-loop-k : goal.invariant-loop-k
invariant-loop-k l =
    l.out.items ++ judgement_lines (l.k + 1) (map formula_as (drop l.k l.formulas)) (drop l.k l.judgements)
    ≡ l.initial.out.items ++ judgement_lines 1 (map formula_as l.formulas) l.judgements
