use Rattle.std.proofs.Common.{◌≡◌, take}
use Rattle.std.specs.Prelude.{map}
use Rattle.sp_scopes.specs.Headers.{see_of}
use Rattle.sp_scopes.specs.Heads.{local_of}
use Rattle.sp_scopes.proofs.heads.locals_of.Given as goal

abbrev pub invariant-loop-formal : goal.invariant-loop-formal
invariant-loop-formal l = l.locals.items ≡ map (local_of (see_of l.declared l.k l.names)) (take l.formal-index l.formals)
