use Rattle.std.proofs.Common.{◌≡◌, ◌++◌, drop, map}
use Rattle.sp_core.specs.Tree.{tree}
use Rattle.sp_rules.specs.Questions.{numbers}
use Rattle.sp_deciding.specs.Verdicts.{atom_lines}
use Rattle.sp_deciding.proofs.atoms.push_each.Given as goal

-- the lines so far stand before those that are left
abbrev pub invariant-loop-k : goal.invariant-loop-k
invariant-loop-k l =
    l.out.items ++ atom_lines l.spec l.formula.vars (map (λ r. tree r.now) l.terms) (numbers (drop l.k l.atoms)) (drop l.k l.values)
    ≡ l.initial.out.items ++ atom_lines l.spec l.formula.vars (map (λ r. tree r.now) l.terms) (numbers l.atoms) l.values
