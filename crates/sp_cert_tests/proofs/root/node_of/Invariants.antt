use Rattle.std.proofs.Common.{◌≡◌, length}
use Rattle.sp_cert_tests.proofs.root.node_of.Given as goal

abbrev pub invariant-loop-place : goal.invariant-loop-place
invariant-loop-place l = length l.args ≡ 8
