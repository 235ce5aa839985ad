use Rattle.std.proofs.Common.{◌≡◌, length}
use Rattle.sp_saturate_tests.proofs.builder.node_of.Given as goal

abbrev pub invariant-loop-place : goal.invariant-loop-place
invariant-loop-place l = length l.args ≡ 8
