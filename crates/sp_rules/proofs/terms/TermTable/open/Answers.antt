use Rattle.std.proofs.Common.{List, sym, subst}
use Rattle.sp_pool.specs.declared.node.Node.{Node}
use Rattle.sp_rules.specs.Terms.{AreSmall}
use Rattle.sp_rules.proofs.PoolTerms.{pool_small}
use Rattle.sp_rules.proofs.terms.TermTable.open.Goals as goal

pub invariant_of-result : goal.invariant_of-result
invariant_of-result c =
    subst (λ (ns : List Node). AreSmall (record { nodes = ns; levels = c.in_ok-levels.levels.items; lattice = c.in_ok-lattice.lattice })) (sym c.in_ok-nodes.ensures.nodes)
    (pool_small c.args.pool.now c.in_ok-nodes.ensures.pool c.in_ok-levels.levels.items c.in_ok-lattice.lattice)
