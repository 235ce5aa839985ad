use Rattle.std.proofs.Common.{◌≡◌, take}
use Rattle.std.specs.List.{flat_map}
use Rattle.sp_text.specs.Violations.{first}
use Rattle.sp_scopes.specs.Headers.{see_of}
use Rattle.sp_scopes.specs.Modules.{definition_broken}
use Rattle.sp_scopes.proofs.module.definitions_broken.Given as goal

abbrev pub invariant-loop-definition : goal.invariant-loop-definition
invariant-loop-definition l = l.found ≡ first (flat_map (definition_broken (see_of l.declared l.k l.names)) (take l.definition-index l.definitions))
