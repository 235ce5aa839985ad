use Rattle.std.proofs.Common.{◌≡◌, take}
use Rattle.sp_scopes.specs.Lent.{all_types}
use Rattle.sp_scopes.proofs.lent.all_types.Given as goal

abbrev pub invariant-loop-text : goal.invariant-loop-text
invariant-loop-text l = l.all.items ≡ all_types (take l.text-index l.modules)
