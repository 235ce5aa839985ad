use Rattle.std.proofs.Common.{◌+◌, ◌*◌}
use Rattle.sp_cert.specs.Tree.{tree}
use Rattle.sp_checker.specs.Known.{weight}
use Rattle.sp_checker.proofs.walk.+tree.Given as goal

abbrev pub decreases-tree_fault : goal.decreases-tree_fault
decreases-tree_fault l = 3 * weight (tree l.cert.now) + 2

abbrev pub decreases-node_fault : goal.decreases-node_fault
decreases-node_fault l = 3 * weight (tree l.cert.now) + 1

abbrev pub decreases-branch_fault : goal.decreases-branch_fault
decreases-branch_fault l = 3 * weight (tree l.cert.now) + 3
