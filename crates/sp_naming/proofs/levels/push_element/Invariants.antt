use Rattle.std.proofs.Common.{◌≡◌, ◌++◌}
use Rattle.sp_naming.specs.Levels.{element_levels}
use Rattle.sp_naming.proofs.levels.push_element.Given as goal

abbrev pub invariant-loop-set : goal.invariant-loop-set
invariant-loop-set l = l.all.items ≡ l.initial.all.items ++ element_levels l.categories l.element l.first 0 l.set
