use Rattle.std.proofs.Common.{◌+◌, ◌*◌, map}
use Rattle.sp_core.specs.Measures.{nodes, nodes_in}
use Rattle.sp_core.specs.Tree.{tree, trees_of}
use Rattle.sp_functions.proofs.depths.+greatest.Given as goal

abbrev pub decreases-greatest : goal.decreases-greatest
decreases-greatest l = 2 * nodes (tree l.e.now)

abbrev pub decreases-greatest_in : goal.decreases-greatest_in
decreases-greatest_in l = 2 * nodes_in (trees_of (map tree l.parts.now)) + 1
