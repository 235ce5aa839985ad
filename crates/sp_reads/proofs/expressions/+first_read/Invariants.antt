use Rattle.std.proofs.Common.{◌+◌, ◌*◌, map}
use Rattle.sp_core.specs.Measures.{nodes, nodes_in}
use Rattle.sp_core.specs.Tree.{tree, trees_of}
use Rattle.sp_reads.proofs.expressions.+first_read.Given as goal

abbrev pub decreases-first_read : goal.decreases-first_read
decreases-first_read l = 2 * nodes (tree l.e.now)

abbrev pub decreases-first_read_in : goal.decreases-first_read_in
decreases-first_read_in l = 2 * nodes_in (trees_of (map tree l.parts.now)) + 1
