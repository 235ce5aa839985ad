use Rattle.std.proofs.Common.{ℕ, ◌<◌}
use Rattle.sp_rules.specs.declared.fact.Fact.TheVariants.{Le}
use Rattle.sp_saturate.specs.Gaps.{IsOld, simple}
use Rattle.sp_saturate.proofs.gaps.lowers_gap.Given as goal

abbrev pub invariant-loop-h : goal.invariant-loop-h
invariant-loop-h l = (h : ℕ) → h < l.h → IsOld l.trail (simple (Le h l.i) 16 0)
