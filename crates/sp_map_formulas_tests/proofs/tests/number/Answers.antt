use Rattle.std.proofs.Common.{sym, subst}
use Rattle.sp_core.specs.WellFormed.{IsWellFormed}
use Rattle.sp_map_formulas_tests.proofs.tests.number.Goals as goal

pub assemble-requires : goal.assemble-requires
assemble-requires c =
    let o = c.in_ok-lattice.lattice in
    subst IsWellFormed (sym (λ i. record {
      name = c.in_ok-name.ensures i;
      lattice = o;
      level_names = c.in_ok-levels.ensures i;
      types = c.new-types.ensures.items i;
      params = c.new-params.ensures.items i;
      assertions = c.new-assertions.ensures.items i;
      functions = c.in_ok-functions.ensures i;
    })) (c.number_is_mapped.ensures o c.in_ok-lattice.ensures.lattice c.in_ok-lattice.ensures.order.count_same).0
