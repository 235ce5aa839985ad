use Rattle.std.proofs.Common.{◌≡◌, map}
use Rattle.sp_core.specs.Tree.{tree}
use Rattle.sp_sequent.specs.Numbers.{nodes_of}
use Rattle.sp_sequent.specs.Subterms.{truths}
use Rattle.sp_sequent.proofs.Weights.{weight}
use Rattle.sp_formulas.specs.Generated.{IsAdded, hypothesis_tree}
use Rattle.sp_formulas.proofs.GeneratedLemmas.{Walked}
use Rattle.sp_formulas.proofs.reading.+walk.Given as goal

abbrev pub decreases-walk : goal.decreases-walk
decreases-walk l = weight (tree l.e.now)

abbrev pub invariant-loop-k : goal.invariant-loop-k
invariant-loop-k l = record {
  added : IsAdded l.spec l.fn.out.items l.out.items (Walked l.spec l.place l.bound (map hypothesis_tree l.hyps) (tree l.e) l.k);
  two : l.pool ≡ nodes_of truths;
}
