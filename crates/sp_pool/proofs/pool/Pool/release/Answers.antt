use Rattle.std.proofs.Common.{◌≡◌, map, take, sym, ap, ◌∙◌, arith}
use Rattle.std.specs.Vec.{with_items}
use Rattle.std.proofs.lemmas.List.{with_items_is, take-map}
use Rattle.sp_pool.specs.Records.{Records}
use Rattle.sp_pool.specs.Spelling.{node_of}
use Rattle.sp_pool.proofs.Held.{spelled_less}
use Rattle.sp_pool.proofs.NodeLaws.{two, pool_less}
use Rattle.sp_pool.specs.Nodes.{IsPool}
use Rattle.sp_pool.proofs.TreeLaws.{front_keeps_trees}
use Rattle.sp_pool.proofs.pool.Pool.release.Goals as goal
use Rattle.sp_pool.proofs.pool.Pool.release.Goals.{After-release-2}

pub invariant_of-self : goal.invariant_of-self
invariant_of-self c =
    let records = c.self.inside.region.records in
    let new : (with_items c.self.inside.index c.release.new.slots).items ≡ c.release.new.slots = with_items_is c.self.inside.index c.release.new.slots (omega arith) in
    let h = c.self.invariant in
    rw (new, c.release-2.ensures) (record {
      nodes = rw (← take-map node_of c.args.m.0 records) (pool_less (map node_of records) h.nodes (two h.nodes) c.args.m.0 c.requires.two);
      spelled = spelled_less records c.args.m.0 h.spelled;
      index = c.release.ensures;
      words_fixed = h.words_fixed;
      records_fixed = h.records_fixed;
    })

pool_before : (c : After-release-2) → IsPool c.args.self.now
pool_before c = rw (← c.self.view_is) c.self.invariant.nodes

front : (c : After-release-2) → map node_of c.release-2.new.self.records ≡ take c.args.m.0 c.args.self.now
front c =
    ap (λ (r : Records). map node_of r.records) c.release-2.ensures ∙ sym (take-map node_of c.args.m.0 c.self.inside.region.records) ∙ ap (take c.args.m.0) c.self.view_is

pub returns-clause-nodes : goal.returns-clause-nodes
returns-clause-nodes c = front (goal.at.returns-clause-nodes c).After-release-2

pub returns-clause-trees : goal.returns-clause-trees
returns-clause-trees c =
    let after = (goal.at.returns-clause-trees c).After-release-2 in
    rw (front after) (front_keeps_trees c.args.self.now c.args.m.0 (pool_before after))

pub returns-clause-pool : goal.returns-clause-pool
returns-clause-pool c =
    let after = (goal.at.returns-clause-pool c).After-release-2 in
    rw (front after) (pool_less c.args.self.now (pool_before after) (two (pool_before after)) c.args.m.0 c.requires.two)
