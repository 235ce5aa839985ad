use Rattle.sp_stepping.specs.Moments.{AreMade}
use Rattle.sp_stepping.proofs.changing.Changing.make.Given as goal

abbrev pub invariant-loop-rank : goal.invariant-loop-rank
invariant-loop-rank l = AreMade l.self l.rank l.made
