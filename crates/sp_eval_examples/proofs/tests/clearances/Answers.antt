use Rattle.sp_eval_examples.proofs.ClearanceLemmas.{clearances_assemble}
use Rattle.sp_eval_examples.proofs.tests.clearances.Goals as goal

pub assemble-requires : goal.assemble-requires
assemble-requires c =
    clearances_assemble c.in_ok-lattice.lattice c.in_ok-name.name c.in_ok-levels.levels.items c.in_ok-types.types.items c.in_ok-params.params.items c.in_ok-assertions.assertions.items c.in_ok-functions.functions.items
    c.in_ok-lattice.ensures.lattice c.in_ok-lattice.ensures.order c.in_ok-name.ensures c.in_ok-levels.ensures c.in_ok-types.ensures c.in_ok-params.ensures c.in_ok-assertions.ensures c.in_ok-functions.ensures
