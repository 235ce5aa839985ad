use Rattle.std.proofs.Common.{◌≡◌, map, take}
use Rattle.sp_animator.specs.Views as views
use Rattle.sp_animator.proofs.viewing.translate.Given as goal

abbrev pub invariant-loop-index : goal.invariant-loop-index
invariant-loop-index l = l.all ≡ map (views.translated l.types) (take l.index l.values)
