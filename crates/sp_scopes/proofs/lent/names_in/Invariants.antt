use Rattle.std.proofs.Common.{◌≡◌, take}
use Rattle.sp_scopes.specs.Lent.{names_in}
use Rattle.sp_scopes.proofs.lent.names_in.Given as goal

abbrev pub invariant-loop-x : goal.invariant-loop-x
invariant-loop-x l = l.names.items ≡ names_in (take l.x-index l.idents)
