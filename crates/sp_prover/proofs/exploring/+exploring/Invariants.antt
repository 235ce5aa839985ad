use Rattle.std.proofs.Common.{◌*◌, ◌-◌, length}
use Rattle.sp_prover.proofs.exploring.+exploring.Given as goal

abbrev pub decreases-explore : goal.decreases-explore
decreases-explore l = 2 * (length l.places.now - l.at)

abbrev pub decreases-explore_value : goal.decreases-explore_value
decreases-explore_value l = 2 * (length l.places.now - l.at) - 1
