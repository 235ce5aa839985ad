use Rattle.std.proofs.Common.{◌≡◌, take}
use Rattle.std.specs.Prelude.{map}
use Rattle.sp_scopes.specs.Headers.{see_of}
use Rattle.sp_scopes.specs.Lent.{definition_of}
use Rattle.sp_scopes.proofs.lent.module_definitions.Given as goal

abbrev pub invariant-loop-pair : goal.invariant-loop-pair
invariant-loop-pair l = l.all.items ≡ map (definition_of l.k (see_of l.declared l.k l.names)) (take l.pair-index l.definitions)
