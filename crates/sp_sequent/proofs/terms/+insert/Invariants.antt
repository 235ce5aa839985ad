use Rattle.std.proofs.Common.{map, take}
use Rattle.sp_core.specs.Tree.{tree}
use Rattle.sp_sequent.specs.Numbers.{Reached, parts}
use Rattle.sp_sequent.proofs.Weights.{weight}
use Rattle.sp_sequent.proofs.terms.+insert.Given as goal

abbrev pub decreases-insert : goal.decreases-insert
decreases-insert l = weight (tree l.e.now)

abbrev pub invariant-loop-k : goal.invariant-loop-k
invariant-loop-k l =
    Reached (map (λ r. tree r.now) l.fn.terms.items) l.pool (map (λ r. tree r.now) l.terms.items) (map (λ t. t.0) l.arguments) (take l.k (parts (tree l.e)))
