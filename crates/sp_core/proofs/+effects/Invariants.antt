use Rattle.std.proofs.Common.{◌≡◌, take}
use Rattle.sp_core.proofs.+effects.Given as goal

abbrev pub invariant-copy::copy_effects-loop-effect : goal.invariant-copy::copy_effects-loop-effect
invariant-copy::copy_effects-loop-effect l = l.all ≡ take l.effect-index l.effect-items
