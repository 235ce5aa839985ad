use Rattle.std.proofs.Common.{◌≡◌, take}
use Rattle.sp_scopes.specs.Lent.{level_names}
use Rattle.sp_scopes.proofs.lent.level_names.Given as goal

abbrev pub invariant-loop-d : goal.invariant-loop-d
invariant-loop-d l = l.names.items ≡ level_names (take l.d-index l.all)
