use Rattle.sp_forms.specs.Readers.{read_name}
use Rattle.sp_interface.specs.Lattices.{chain_line}
use Rattle.sp_interface.proofs.lattice.chain.Goals as goal

pub returns : goal.returns
unfolding chain_line
returns c = c.separated.ensures read_name (record { reads = λ alloc old new r e. e.1 })
