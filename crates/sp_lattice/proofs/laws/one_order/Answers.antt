use Rattle.sp_lattice.proofs.OrderLaws.{one_lattice_order}
use Rattle.sp_lattice.proofs.laws.one_order.Goals as goal

pub returns : goal.returns
returns c = λ o p lattice other is. one_lattice_order o p lattice other is
