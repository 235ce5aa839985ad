use Rattle.std.proofs.Common.{◌≡◌, ℕ, ◌+◌, ◌≤◌, length, drop, List}
use Rattle.sp_rules.specs.Facts.{holds_in}
use Rattle.sp_rules.specs.Terms.{count as term_count}
use Rattle.sp_checker.specs.Known.{judge}
use Rattle.sp_checker.specs.Migration.{common, following}
use Rattle.sp_checker.specs.Trail.{Trailed, EachWithin, free}
use Rattle.sp_checker.proofs.lift.follow_shared.Given as goal

abbrev pub invariant-loop-place : goal.invariant-loop-place
invariant-loop-place l = record {
  eq : l.eq.count ≡ l.initial.eq.count;
  le : l.le.count ≡ l.initial.le.count;
  room : l.top + (free l.eq + free l.le) ≤ length l.trail;
  trailed : Trailed (holds_in l.initial.eq l.initial.le) l.trail 0 l.top (holds_in l.eq l.le);
  within : EachWithin (term_count l.terms) l.trail l.top;
  there : l.place ≤ length l.second;
  count : (atoms : List ℕ) → length (following (judge l.terms atoms) (holds_in l.initial.eq l.initial.le) (common l.first l.second))
      ≡ l.place + length (following (judge l.terms atoms) (holds_in l.eq l.le) (common (drop l.place l.first) (drop l.place l.second)));
}
