use Rattle.std.proofs.Common.{ℕ, ◌<◌}
use Rattle.sp_saturate.specs.Gaps.{UpperIsOld}
use Rattle.sp_saturate.proofs.gaps.uppers_gap.Given as goal

abbrev pub invariant-loop-j : goal.invariant-loop-j
invariant-loop-j l = (j : ℕ) → j < l.j → UpperIsOld l.trail l.i j
