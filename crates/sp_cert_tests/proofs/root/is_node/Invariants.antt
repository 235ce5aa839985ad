use Rattle.std.proofs.Common.{◌≡◌, ◌<◌, ◌≤◌, ℕ}
use Rattle.sp_pool.specs.Nodes.{arg_of}
use Rattle.sp_cert_tests.proofs.root.is_node.Given as goal

abbrev pub invariant-loop-place : goal.invariant-loop-place
invariant-loop-place l = record {
  earlier : (k : ℕ) → k < l.place → k < l.node.count → arg_of l.node k < l.held;
  padded : (k : ℕ) → k < l.place → l.node.count ≤ k → arg_of l.node k ≡ 0;
}
