use Rattle.std.proofs.Common.{◌≡◌, take}
use Rattle.std.specs.List.{flat_map}
use Rattle.sp_text.specs.Violations.{first}
use Rattle.sp_scopes.specs.Interfaces.{level_rule}
use Rattle.sp_scopes.proofs.interface.chain_broken.Given as goal

abbrev pub invariant-loop-x : goal.invariant-loop-x
invariant-loop-x l = l.found ≡ first (flat_map (level_rule l.declared) (take l.x-index l.chain))
