use Rattle.std.proofs.Common.{◌≡◌, take}
use Rattle.std.specs.Prelude.{map}
use Rattle.sp_scopes.specs.Headers.{see_of}
use Rattle.sp_scopes.specs.Heads.{plain_head}
use Rattle.sp_scopes.proofs.heads.parameter_heads.Given as goal

abbrev pub invariant-loop-header : goal.invariant-loop-header
invariant-loop-header l = l.heads.items ≡ map (plain_head (see_of l.declared l.k l.names)) (take l.header-index l.parameters)
