use Rattle.std.proofs.Common.{◌+◌, ◌*◌}
use Rattle.sp_cert.specs.Tree.{tree}
use Rattle.sp_checker.specs.Known.{weight}
use Rattle.sp_checker.proofs.lift.+raise.Given as goal

abbrev pub decreases-raise : goal.decreases-raise
decreases-raise l = 2 * weight (tree l.cert.now)

abbrev pub decreases-raise_branch : goal.decreases-raise_branch
decreases-raise_branch l = 2 * weight (tree l.cert.now) + 1
