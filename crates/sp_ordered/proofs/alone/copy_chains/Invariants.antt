use Rattle.std.proofs.Common.{◌≡◌, take}
use Rattle.sp_ordered.proofs.alone.copy_chains.Given as goal

abbrev pub invariant-loop-chain : goal.invariant-loop-chain
invariant-loop-chain l = l.all.items ≡ take l.chain-index l.chains
