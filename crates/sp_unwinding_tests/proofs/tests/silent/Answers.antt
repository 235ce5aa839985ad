use Rattle.sp_unwinding_tests.proofs.Silent.{silent_assembles}
use Rattle.sp_unwinding_tests.proofs.tests.silent.Goals as goal

pub assemble-requires : goal.assemble-requires
assemble-requires c =
    silent_assembles c.in_ok-lattice.lattice c.in_ok-name.name c.in_ok-levels.levels.items c.new-types.result.items c.new-params.result.items c.new-assertions.result.items c.new-functions.result.items
    c.in_ok-lattice.ensures.lattice c.in_ok-lattice.ensures.order c.in_ok-name.ensures c.in_ok-levels.ensures c.new-types.ensures.items c.new-params.ensures.items c.new-assertions.ensures.items c.new-functions.ensures.items
