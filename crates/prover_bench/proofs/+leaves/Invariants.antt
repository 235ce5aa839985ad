use Rattle.std.proofs.Common.{ℕ}
use Rattle.prover_bench.proofs.+leaves.Given as goal

abbrev pub decreases-leaves : goal.decreases-leaves
decreases-leaves l = l.depth
