use Rattle.std.proofs.Common.{◌≡◌, take}
use Rattle.std.specs.List.{flat_map}
use Rattle.sp_text.specs.Violations.{first}
use Rattle.sp_scopes.specs.Headers.{header_broken, see_of}
use Rattle.sp_scopes.proofs.module.parameters_broken.Given as goal

abbrev pub invariant-loop-head : goal.invariant-loop-head
invariant-loop-head l = l.found ≡ first (flat_map (header_broken (see_of l.declared l.k l.names)) (take l.head-index l.parameters))
