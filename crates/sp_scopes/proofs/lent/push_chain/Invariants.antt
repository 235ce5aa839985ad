use Rattle.std.proofs.Common.{◌≡◌, ◌++◌, drop}
use Rattle.sp_scopes.specs.Lent.{chain_pairs, level_at, neighbours}
use Rattle.sp_scopes.proofs.lent.push_chain.Given as goal

abbrev pub invariant-loop-x : goal.invariant-loop-x
invariant-loop-x l = l.pairs.items ++ neighbours (level_at l.declared) l.last (drop l.x-index l.chain) ≡ l.initial.pairs.items ++ chain_pairs l.declared l.chain
