use Rattle.std.proofs.Common.{◌≡◌, take}
use Rattle.std.specs.List.{flat_map}
use Rattle.sp_scopes.specs.Lent.{chain_pairs}
use Rattle.sp_scopes.proofs.lent.all_pairs.Given as goal

abbrev pub invariant-loop-chain : goal.invariant-loop-chain
invariant-loop-chain l = l.pairs.items ≡ flat_map (chain_pairs l.declared) (take l.chain-index l.chains)
