use Rattle.std.proofs.Common.{◌≡◌, map, take}
use Rattle.sp_core.specs.Ranks.{new_reads_in}
use Rattle.sp_core.specs.Tree.{tree, trees_of}
use Rattle.sp_ranks.specs.Heights.{height_above}
use Rattle.sp_ranks.proofs.heights.+reading.Given as goal

abbrev pub invariant-height_above_all-loop-part : goal.invariant-height_above_all-loop-part
invariant-height_above_all-loop-part l = l.most ≡ height_above l.heights (new_reads_in (trees_of (map tree (take l.part-index l.parts))))
