use Rattle.std.proofs.Common.{◌+◌, ◌*◌, map}
use Rattle.sp_core.specs.Measures.{nodes, nodes_in}
use Rattle.sp_core.specs.Tree.{tree, trees_of}
use Rattle.sp_making.proofs.counting.+count.Given as goal

abbrev pub decreases-count : goal.decreases-count
decreases-count l = 2 * nodes (tree l.e.now)

abbrev pub decreases-count_all : goal.decreases-count_all
decreases-count_all l = 2 * nodes_in (trees_of (map tree l.parts.now)) + 1
