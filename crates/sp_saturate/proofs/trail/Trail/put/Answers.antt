use Rattle.std.proofs.Common.{map, sym, subst}
use Rattle.sp_saturate.specs.Steps.{step_of, IsFound}
use Rattle.sp_saturate.specs.Trail.{IsTrail}
use Rattle.sp_saturate.proofs.Trails.{has_room, trail_more}
use Rattle.sp_saturate.proofs.trail.Trail.put.Goals as goal

pub unreachable-requires : goal.unreachable-requires
unreachable-requires c =
    let s = c.self.inside in
    c.in_default.ensures.full (has_room s.terms.now s.eq s.le s.records c.self.invariant c.args.step.now c.mark.new.eq c.mark.new.le c.mark.ensures c.spelled-words.result c.spelled-words.ensures.four c.tell_within.ensures.few c.tell_within-2.ensures.few)

pub invariant_of-self : goal.invariant_of-self
invariant_of-self c =
    let s = c.self.inside in
    let found : IsFound s.terms.now (map step_of s.records.records) c.args.step.now = record {
      reason = rw (← c.self.view_is) at c.requires.reason;
      new = rw (← c.self.view_is) at c.requires.new;
    } in
    subst (λ r. IsTrail s.terms.now c.mark.new.eq c.mark.new.le r) (sym c.in-Ok.ensures.placed)
    (trail_more s.terms.now s.eq s.le s.records c.self.invariant c.args.step.now c.mark.new.eq c.mark.new.le c.mark.ensures c.spelled-words.result c.spelled-words.ensures.four c.spelled-words.ensures.back found)
