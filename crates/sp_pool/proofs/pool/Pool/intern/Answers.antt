use Rattle.std.proofs.Common.{◌≡◌, length, map, Result, Ok, Err, ◌∙◌, arith, rules}
use Rattle.std.specs.Result.{OnErr}
use Rattle.std.specs.Vec.{with_items}
use Rattle.std.proofs.lemmas.List.{with_items_is}
use Rattle.sp_pool.specs.Nodes.{IsGrown, IsHeld, IsNode, IsPool}
use Rattle.sp_pool.specs.Kept.{IsKept}
use Rattle.sp_pool.specs.Spelling.{node_of}
use Rattle.sp_pool.proofs.Held.{interned_here, interned_held, interned_next, interned_full, interned_grown, interned_kept}
use Rattle.sp_pool.proofs.TreeLaws.{grown_keeps_trees, grown_tree}
use Rattle.sp_pool.proofs.pool.Pool.intern.Goals as goal
use Rattle.sp_pool.proofs.pool.Pool.intern.Goals.{After-intern_node}

-- what the pool keeps after the node was interned
kept : (c : After-intern_node) → IsKept c.intern_node.new.region.records (with_items c.self.inside.index c.intern_node.new.slots).items c.intern_node.new.region.most_words c.intern_node.new.region.most_records
kept c =
    let fine : IsNode (length (map node_of c.self.inside.region.records)) c.args.n = rw (← c.self.view_is) at c.requires in
    let eight : length c.args.n.args ≡ 8 = search rules in
    let new : (with_items c.self.inside.index c.intern_node.new.slots).items ≡ c.intern_node.new.slots = with_items_is c.self.inside.index c.intern_node.new.slots (omega arith) in
    rw new (interned_kept c.self.inside.region.records c.intern_node.new.region.records c.args.n c.self.invariant.spelled c.intern_node.ensures.back c.intern_node.result c.intern_node.ensures.interned
    c.self.invariant.nodes fine eight c.intern_node.new.slots c.intern_node.new.region.most_words c.intern_node.new.region.most_records c.intern_node.ensures.index c.intern_node.ensures.sizes)

on_err : {X E P : Type 0} (r : Result X E) → P → OnErr r P
on_err (Ok x) p = tt
on_err (Err e) p = p

pub invariant_of-self-2 : goal.invariant_of-self-2
invariant_of-self-2 c = kept (goal.at.invariant_of-self-2 c).After-intern_node

pub returns-clause-here : goal.returns-clause-here
returns-clause-here c =
    interned_here c.self.inside.region.records c.intern_node.new.region.records c.args.n c.self.invariant.spelled c.intern_node.ensures.back c.in_ok-number.number c.in_ok-number.ensures.interned

pub returns-clause-held : goal.returns-clause-held
returns-clause-held c = λ h.
    interned_held c.self.inside.region.records c.intern_node.new.region.records c.args.n c.self.invariant.spelled c.intern_node.ensures.back c.intern_node.result c.intern_node.ensures.interned (rw (← c.self.view_is) at h)
    ∙ c.self.view_is

pub returns-clause-next : goal.returns-clause-next
returns-clause-next c = λ h.
    let fresh : IsHeld (map node_of c.self.inside.region.records) c.args.n → ⊥ = rw (← c.self.view_is) at h in
    let next = interned_next c.self.inside.region.records c.intern_node.new.region.records c.args.n c.self.invariant.spelled c.intern_node.ensures.back c.in_ok-number.number c.in_ok-number.ensures.interned fresh in
    rw (← c.self.view_is) next

pub returns-clause-pool : goal.returns-clause-pool
returns-clause-pool c = (kept (goal.at.returns-clause-pool c).After-intern_node).nodes

pub returns-in_err-number-clause-full : goal.returns-in_err-number-clause-full
returns-in_err-number-clause-full c =
    let full = interned_full c.self.inside.region.records c.intern_node.new.region.records c.args.n c.self.invariant.spelled c.intern_node.ensures.back c.in_err-number.field-0.0 c.in_err-number.ensures.interned in
    on_err c.from_residual.result (rw (← c.self.view_is) full)

-- the nodes as they were, or with one more
grown : (c : After-intern_node) → IsGrown c.args.self.now c.args.n (map node_of c.intern_node.new.region.records)
grown c =
    rw (← c.self.view_is) (interned_grown c.self.inside.region.records c.intern_node.new.region.records c.args.n c.self.invariant.spelled c.intern_node.ensures.back c.intern_node.result c.intern_node.ensures.interned)

pool_before : (c : After-intern_node) → IsPool c.args.self.now
pool_before c = rw (← c.self.view_is) c.self.invariant.nodes

pub returns-clause-grown : goal.returns-clause-grown
returns-clause-grown c = grown (goal.at.returns-clause-grown c).After-intern_node

pub returns-clause-trees : goal.returns-clause-trees
returns-clause-trees c =
    let after = (goal.at.returns-clause-trees c).After-intern_node in
    grown_keeps_trees c.args.self.now (map node_of c.intern_node.new.region.records) c.args.n (pool_before after) (grown after)

pub returns-clause-tree : goal.returns-clause-tree
returns-clause-tree c = λ ts a.
    let after = (goal.at.returns-clause-tree c).After-intern_node in
    let here = interned_here c.self.inside.region.records c.intern_node.new.region.records c.args.n c.self.invariant.spelled c.intern_node.ensures.back c.in_ok-number.number c.in_ok-number.ensures.interned in
    grown_tree c.args.self.now (map node_of c.intern_node.new.region.records) c.args.n (pool_before after) (grown after) c.in_ok-number.number c.requires here ts a
