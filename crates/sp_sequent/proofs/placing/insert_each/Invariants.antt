use Rattle.std.proofs.Common.{map, take}
use Rattle.sp_core.specs.Tree.{tree}
use Rattle.sp_sequent.specs.Numbers.{Reached}
use Rattle.sp_sequent.proofs.placing.insert_each.Given as goal

abbrev pub invariant-loop-e : goal.invariant-loop-e
invariant-loop-e l =
    Reached (map (λ r. tree r.now) l.fn.terms.items) l.pool (map (λ r. tree r.now) l.terms.items) (map (λ t. t.0) l.numbers.items) (map tree (take l.e-index l.exprs))
