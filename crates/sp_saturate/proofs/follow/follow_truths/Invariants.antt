use Rattle.sp_saturate.specs.Trail.{Extends}
use Rattle.sp_saturate.proofs.follow.follow_truths.Given as goal

abbrev pub invariant-loop-k : goal.invariant-loop-k
invariant-loop-k l = Extends l.initial.trail l.trail
