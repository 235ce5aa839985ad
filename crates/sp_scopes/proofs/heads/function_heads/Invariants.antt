use Rattle.std.proofs.Common.{◌≡◌, take}
use Rattle.std.specs.Prelude.{map}
use Rattle.sp_scopes.specs.Headers.{see_of}
use Rattle.sp_scopes.specs.Heads.{function_head}
use Rattle.sp_scopes.proofs.heads.function_heads.Given as goal

abbrev pub invariant-loop-function : goal.invariant-loop-function
invariant-loop-function l = l.heads.items ≡ map (function_head (see_of l.declared l.k l.names)) (take l.function-index l.functions)
