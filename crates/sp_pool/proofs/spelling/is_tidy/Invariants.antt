use Rattle.std.proofs.Common.{◌≡◌, ℕ, ◌≤◌, ◌<◌}
use Rattle.sp_pool.specs.Nodes.{arg_of}
use Rattle.sp_pool.proofs.spelling.is_tidy.Given as goal

abbrev pub invariant-loop-place : goal.invariant-loop-place
invariant-loop-place l = (k : ℕ) → k < l.place → l.node.count ≤ k → arg_of l.node k ≡ 0
