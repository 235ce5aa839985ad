use Rattle.std.proofs.Common.{sym, arith}
use Rattle.sp_instance.proofs.Typed.{place_below}
use Rattle.sp_instance.proofs.vocabulary.Vocabulary.level_of.Goals as goal

pub overflow_cast-result : goal.overflow_cast-result
overflow_cast-result c = omega (arith, place_below c.self.inside.levels c.bytes.result.now c.in-Some.level (sym c.in-Some.ensures), c.self.invariant.levels)
