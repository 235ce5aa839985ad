use Rattle.sp_examples.proofs.WorkedLemmas.{files_assemble}
use Rattle.sp_eval_examples.proofs.specifications.files.Goals as goal

pub assemble-requires : goal.assemble-requires
assemble-requires c =
    files_assemble c.in_ok-lattice.lattice c.in_ok-name.name c.in_ok-levels.levels.items c.in_ok-types.types.items c.in_ok-params.params.items c.new-none.result.items c.in_ok-functions.functions.items
    c.in_ok-lattice.ensures.lattice c.in_ok-lattice.ensures.order c.in_ok-name.ensures c.in_ok-levels.ensures c.in_ok-types.ensures c.in_ok-params.ensures c.new-none.ensures.items c.in_ok-functions.ensures
