use Rattle.std.proofs.Common.{◌≡◌, take}
use Rattle.std.specs.Prelude.{map}
use Rattle.sp_scopes.specs.Headers.{see_of}
use Rattle.sp_scopes.specs.Heads.{definition_head}
use Rattle.sp_scopes.proofs.heads.definition_heads.Given as goal

abbrev pub invariant-loop-definition : goal.invariant-loop-definition
invariant-loop-definition l = l.heads.items ≡ map (definition_head (see_of l.declared l.k l.names)) (take l.definition-index l.definitions)
