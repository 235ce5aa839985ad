use Rattle.std.proofs.Common.{◌≡◌, ℕ, ◌+◌, ◌≤◌, false, length, drop, List}
use Rattle.sp_rules.specs.declared.fact.Fact.{Fact}
use Rattle.sp_checker.specs.Trail.{free}
use Rattle.sp_rules.specs.Facts.{holds_in}
use Rattle.sp_rules.specs.Terms.{count as term_count}
use Rattle.sp_cert.specs.Checks.{Facts, bad_step, count_steps, ends_in_clash, with_steps}
use Rattle.sp_checker.specs.Known.{judge}
use Rattle.sp_checker.specs.Trail.{Trailed, EachWithin, Kept}
use Rattle.sp_checker.proofs.walk.follow.Given as goal

abbrev pub invariant-loop-step : goal.invariant-loop-step
invariant-loop-step l = record {
  eq : l.eq.count ≡ l.initial.eq.count;
  le : l.le.count ≡ l.initial.le.count;
  room : l.len + (free l.eq + free l.le) ≤ length l.trail;
  longer : l.from ≤ l.len;
  trailed : (h0 : Facts) (base : ℕ) → Trailed h0 l.initial.trail base l.from (holds_in l.initial.eq l.initial.le) → Trailed h0 l.trail base l.len (holds_in l.eq l.le);
  within : EachWithin (term_count l.terms) l.trail l.len;
  kept : Kept l.initial.trail l.trail l.from;
  fault : (atoms : List ℕ) → bad_step (judge l.terms atoms) (holds_in l.initial.eq l.initial.le) l.initial.count l.steps
      ≡ bad_step (judge l.terms atoms) (holds_in l.eq l.le) l.count (drop l.step-index l.steps);
  counted : count_steps l.initial.count l.steps ≡ count_steps l.count (drop l.step-index l.steps);
  clash : (atoms : List ℕ) → ends_in_clash (judge l.terms atoms) false l.steps ≡ ends_in_clash (judge l.terms atoms) l.last (drop l.step-index l.steps);
  holds : (f : Fact) → with_steps l.steps (holds_in l.initial.eq l.initial.le) f ≡ with_steps (drop l.step-index l.steps) (holds_in l.eq l.le) f;
}
