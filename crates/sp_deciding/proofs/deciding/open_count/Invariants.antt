use Rattle.std.proofs.Common.{◌≡◌, ◌+◌, ◌≤◌, drop}
use Rattle.sp_deciding.specs.Decided.{open_count}
use Rattle.sp_deciding.proofs.deciding.open_count.Given as goal

-- those so far, with those that are left, are all
abbrev pub invariant-loop-decision : goal.invariant-loop-decision
invariant-loop-decision l = (l.count + open_count (drop l.decision-index l.decisions) ≡ open_count l.decisions) × (l.count ≤ l.decision-index)
