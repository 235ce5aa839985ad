use Rattle.std.proofs.Common.{◌≡◌, take}
use Rattle.sp_naming.specs.Visibility as visible
use Rattle.sp_naming.proofs.visibility.taken.Given as goal

abbrev pub invariant-loop-row : goal.invariant-loop-row
invariant-loop-row l = l.all.items ≡ visible.taken l.declared l.modules (take l.row-index l.externals)
