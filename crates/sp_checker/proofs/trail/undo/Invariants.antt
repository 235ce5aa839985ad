use Rattle.std.proofs.Common.{◌≡◌, ◌≤◌}
use Rattle.sp_rules.specs.Facts.{holds_in}
use Rattle.sp_cert.specs.Checks.{Facts}
use Rattle.sp_checker.specs.Trail.{Trailed}
use Rattle.sp_checker.proofs.trail.undo.Given as goal

abbrev pub invariant-loop-left : goal.invariant-loop-left
invariant-loop-left l = record {
  eq : l.eq.count ≡ l.initial.eq.count;
  le : l.le.count ≡ l.initial.le.count;
  left : l.left ≤ l.len;
  trailed : (h0 : Facts) → Trailed h0 l.trail l.from l.len (holds_in l.initial.eq l.initial.le) → Trailed h0 l.trail l.from l.left (holds_in l.eq l.le);
}

abbrev pub decreases-loop-left : goal.decreases-loop-left
decreases-loop-left l = l.left
