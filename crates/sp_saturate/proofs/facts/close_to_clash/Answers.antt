use Rattle.std.proofs.Common.{arith}
use Rattle.sp_saturate.proofs.Clashing.{calm_all}
use Rattle.sp_saturate.proofs.facts.close_to_clash.Goals as goal

pub returns-in_default-clause-calm : goal.returns-in_default-clause-calm
returns-in_default-clause-calm c = λ e. let t = c.follow_to_clash.new.trail in calm_all t.terms t.steps (λ m l. c.has_clash.ensures.calm e m l (omega arith))
