use Rattle.std.proofs.Common.{[]}
use Rattle.sp_forms.specs.Grammars.{first}
use Rattle.sp_forms.specs.Readers.{read_line}
use Rattle.sp_interface.specs.Lattices.{order_line, orders_line}
use Rattle.sp_interface.proofs.lattice.orders.Goals as goal

pub returns : goal.returns
unfolding orders_line
returns c = c.many.ensures (first [] order_line) (read_line order_line) (record { tells = λ i t e. e }) (record { reads = λ alloc old new r e. e.1 })
