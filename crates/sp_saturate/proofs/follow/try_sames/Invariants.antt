use Rattle.sp_saturate.specs.Trail.{Extends}
use Rattle.sp_saturate.proofs.follow.try_sames.Given as goal

abbrev pub invariant-loop-t : goal.invariant-loop-t
invariant-loop-t l = Extends l.initial.trail l.trail
