use Rattle.std.proofs.Common.{◌≡◌, take}
use Rattle.std.specs.List.{flat_map}
use Rattle.sp_text.specs.Violations.{first}
use Rattle.sp_scopes.specs.Interfaces.{level_rule}
use Rattle.sp_scopes.proofs.interface.order_broken.Given as goal

abbrev pub invariant-loop-chain : goal.invariant-loop-chain
invariant-loop-chain l = l.found ≡ first (flat_map (flat_map (level_rule l.declared)) (take l.chain-index l.chains))
