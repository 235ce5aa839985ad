use Rattle.std.proofs.Common.{◌≡◌, suc, ◌++◌, drop, map}
use Rattle.sp_formulas.specs.Formulas.{formula_as}
use Rattle.sp_formulas_command.specs.Printed.{list_lines}
use Rattle.sp_formulas_command.proofs.printed.push_formulas.Given as goal

-- the lines so far stand before those that are left
abbrev pub invariant-loop-index : goal.invariant-loop-index
invariant-loop-index l =
    l.out.items ++ list_lines l.spec (suc l.index) (map formula_as (drop l.index l.all))
    ≡ l.initial.out.items ++ list_lines l.spec 1 (map formula_as l.all)
