use Rattle.sp_examples.proofs.CountingLemmas.{counting_assemble}
use Rattle.sp_report_tests.proofs.counting.counting.Goals as goal

pub assemble-requires : goal.assemble-requires
assemble-requires c =
    counting_assemble c.in_ok-lattice.lattice c.in_ok-name.name c.in_ok-levels.levels.items c.new-types.result.items c.new-params.result.items c.new-assertions.result.items c.in_ok-functions.functions.items
    c.in_ok-lattice.ensures.lattice c.in_ok-lattice.ensures.order c.in_ok-name.ensures c.in_ok-levels.ensures c.new-types.ensures.items c.new-params.ensures.items c.new-assertions.ensures.items c.in_ok-functions.ensures
