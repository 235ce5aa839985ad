use Rattle.std.proofs.Common.{◌*◌, ◌-◌, length}
use Rattle.sp_rules.specs.Terms.{count}
use Rattle.sp_saturate.specs.Trail.{Extends}
use Rattle.sp_saturate.proofs.facts.close_to_clash.Given as goal

abbrev pub invariant-rounds : goal.invariant-rounds
invariant-rounds l = Extends l.initial.trail l.trail

abbrev pub decreases-rounds : goal.decreases-rounds
decreases-rounds l = 2 * (count l.trail.terms * count l.trail.terms) - length l.trail.steps
