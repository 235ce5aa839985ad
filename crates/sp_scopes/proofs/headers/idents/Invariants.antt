use Rattle.std.proofs.Common.{◌≡◌, take}
use Rattle.sp_scopes.specs.Headers.{names_of}
use Rattle.sp_scopes.proofs.headers.idents.Given as goal

abbrev pub invariant-loop-formal : goal.invariant-loop-formal
invariant-loop-formal l = l.names.items ≡ names_of (take l.formal-index l.formals)
