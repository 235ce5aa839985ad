use Rattle.std.proofs.Common.{ℕ, ◌<◌}
use Rattle.sp_pool.specs.Nodes.{HasNode}
use Rattle.sp_pool.proofs.plain.position.Given as goal

abbrev pub invariant-loop-i : goal.invariant-loop-i
invariant-loop-i l = (k : ℕ) → k < l.i → HasNode l.nodes k l.n → ⊥
