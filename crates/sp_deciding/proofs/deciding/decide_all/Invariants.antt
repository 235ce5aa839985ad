use Rattle.std.proofs.Common.{◌≡◌, ◌+◌, drop, length, map, option_copied}
use Rattle.sp_formulas.specs.Formulas.{formula_as}
use Rattle.sp_deciding.proofs.Progress.{First}
use Rattle.sp_deciding.proofs.deciding.decide_all.Given as goal

-- the pool holds TRUE and FALSE alone, and the formulas so far are decided
abbrev pub invariant-loop-k : goal.invariant-loop-k
invariant-loop-k l = (length l.pool ≡ 2) × First (option_copied l.owner) l.spec (map formula_as l.formulas) (l.k + 1) (map formula_as (drop l.k l.formulas)) l.all.items
