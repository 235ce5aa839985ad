use Rattle.std.proofs.Common.{◌≡◌, map, take}
use Rattle.sp_ranks.specs.Heights.{height_of}
use Rattle.sp_ranks.proofs.ranking.ranks.Given as goal

abbrev pub invariant-loop-number : goal.invariant-loop-number
invariant-loop-number l = l.all.items ≡ map (λ h. height_of l.heights.items h.fun) (take l.number l.heights.items)
