use Rattle.std.proofs.Common.{◌≡◌, ◌<◌, ℕ, Some, slice_get}
use Rattle.sp_core.specs.declared.mapping.MapRow.{MapRow}
use Rattle.sp_animator.proofs.viewing.view.Given as goal

-- no row so far is the place's
abbrev pub invariant-loop-row : goal.invariant-loop-row
invariant-loop-row l = (k : ℕ) (r : MapRow) → k < l.row-index → slice_get l.fn.m.functions k ≡ Some r → r.upper ≡ l.fn.p.fun → ⊥
