use Rattle.std.proofs.Common.{◌≡◌, ◌+◌, drop, length, map}
use Rattle.sp_cert.specs.Tree.{tree}
use Rattle.sp_formulas.specs.Formulas.{formula_as}
use Rattle.sp_prove_command.proofs.Progress.{First}
use Rattle.sp_prove_command.proofs.Kept.{KeptFirst}
use Rattle.sp_prove_command.proofs.proving.prove_all.Given as goal

-- the pool holds TRUE and FALSE alone, the formulas so far are decided, and their certificates kept
abbrev pub invariant-loop-k : goal.invariant-loop-k
invariant-loop-k l =
    (length l.pool ≡ 2) × First l.spec (map formula_as l.formulas) (l.k + 1) (map formula_as (drop l.k l.formulas)) l.decisions.items
    × KeptFirst l.spec (map formula_as l.formulas) (map formula_as (drop l.k l.formulas)) l.decisions.items (map tree l.certs.items)
