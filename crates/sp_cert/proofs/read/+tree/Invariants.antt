use Rattle.std.proofs.Common.{◌+◌, ◌*◌}
use Rattle.sp_cert.proofs.read.+tree.Given as goal

abbrev pub decreases-one_tree : goal.decreases-one_tree
decreases-one_tree l = 2 * l.depth

abbrev pub decreases-split : goal.decreases-split
decreases-split l = 2 * l.depth + 1

abbrev pub decreases-front : goal.decreases-front
decreases-front l = 2 * l.depth + 1
