use Rattle.std.proofs.Common.{◌≡◌, ◌+◌, ◌*◌, ◌≤◌, length, map}
use Rattle.sp_formulas.specs.Formulas.{formula_as}
use Rattle.sp_sample_command.specs.Summary.{term_count}
use Rattle.sp_sample_command.proofs.Counting.{left}
use Rattle.sp_sample_command.proofs.terms.term_count.Given as goal

-- the pool holds TRUE and FALSE alone, and the terms so far, with those that are left, are all
abbrev pub invariant-loop-formula : goal.invariant-loop-formula
invariant-loop-formula l =
    (length l.pool ≡ 2) × (l.total + left l.formulas l.formula-index ≡ term_count (map formula_as l.formulas)) × (l.total ≤ l.formula-index * 65535)
