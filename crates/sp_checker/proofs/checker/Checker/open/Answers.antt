use Rattle.sp_checker.proofs.Rooms.{none_in}
use Rattle.sp_checker.proofs.checker.Checker.open.Goals as goal

pub give_all-requires-clause-none : goal.give_all-requires-clause-none
give_all-requires-clause-none c = λ f. none_in c.in_ok-eq.eq c.in_ok-le.le _ _ c.in_ok-eq.ensures c.in_ok-le.ensures f
