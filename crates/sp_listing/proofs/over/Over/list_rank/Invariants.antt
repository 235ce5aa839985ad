use Rattle.std.proofs.Common.{◌≡◌, map, take}
use Rattle.std.specs.Prelude.{◌==◌}
use Rattle.std.specs.List.{filter}
use Rattle.sp_core.specs.Effects.{changes_in, effect_tree, effect_trees_of}
use Rattle.sp_core.specs.Ranks.{change_rank}
use Rattle.sp_core.specs.States.{entry_of}
use Rattle.sp_listing.specs.Conditions.{machine}
use Rattle.sp_listing.specs.True.{true_entries}
use Rattle.sp_listing.proofs.over.Over.list_rank.Given as goal

abbrev pub invariant-loop-number : goal.invariant-loop-number
invariant-loop-number l =
    l.out.items ≡ true_entries (machine l.self) (entry_of l.self.old) (entry_of l.self.new) l.i
    (filter (λ a. change_rank (changes_in (effect_trees_of (map effect_tree l.effects))) a.fun == l.rank) (take l.number (changes_in (effect_trees_of (map effect_tree l.effects)))))
