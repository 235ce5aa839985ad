use Rattle.std.proofs.Common.{◌≡◌, true, false}
use Rattle.sp_pool.specs.Index.{IsInterned}
use Rattle.sp_pool.specs.Nodes.{truth_node}
use Rattle.sp_pool.specs.Spelling.{node_of, spelling}
use Rattle.sp_pool.proofs.Held.{tidy_node, first_few, first_spelled, nodes_are, truths_kept}
use Rattle.sp_pool.proofs.NodeLaws.{truth_node_is}
use Rattle.sp_pool.proofs.pool.intern_truths.Goals as goal
use Rattle.sp_pool.proofs.pool.intern_truths.Goals.{After-intern_node}

-- what interning TRUE told
true_back : (c : After-intern_node) → node_of (spelling (truth_node true)) ≡ truth_node true
true_back c = rw c.truth.ensures at c.intern_node.ensures.back

true_interned : (c : After-intern_node) → IsInterned c.args.region.now.records c.intern_node.new.region.records (spelling (truth_node true)) c.intern_node.result
true_interned c = rw c.truth.ensures at c.intern_node.ensures.interned

pub intern_node-requires-2 : goal.intern_node-requires-2
intern_node-requires-2 c =
    let after = (goal.at.intern_node-requires-2 c).After-intern_node in
    let old = c.args.region.now.records in
    let first = c.intern_node.new.region.records in
    record {
      tidy = rw c.truth-2.ensures (tidy_node 0 (truth_node false) (truth_node_is 0 false));
      index = c.intern_node.ensures.index;
      spelled = first_spelled old first c.requires.empty c.intern_node.result (true_back after) (true_interned after);
      sizes = c.intern_node.ensures.sizes;
      few = first_few old first c.requires.empty c.intern_node.result (true_back after) (true_interned after);
    }

pub returns-clause-nodes : goal.returns-clause-nodes
returns-clause-nodes c =
    let after = (goal.at.returns-clause-nodes c).After-intern_node in
    let back : node_of (spelling (truth_node false)) ≡ truth_node false = rw c.truth-2.ensures at c.intern_node-2.ensures.back in
    let interned : IsInterned c.intern_node.new.region.records c.intern_node-2.new.region.records (spelling (truth_node false)) c.intern_node-2.result = rw c.truth-2.ensures at c.intern_node-2.ensures.interned in
    nodes_are c.args.region.now.records c.intern_node.new.region.records c.requires.empty c.intern_node.result (true_back after) (true_interned after)
    c.intern_node-2.new.region.records c.intern_node-2.result back interned

pub returns-clause-kept : goal.returns-clause-kept
returns-clause-kept c =
    let after = (goal.at.returns-clause-kept c).After-intern_node in
    let back : node_of (spelling (truth_node false)) ≡ truth_node false = rw c.truth-2.ensures at c.intern_node-2.ensures.back in
    let interned : IsInterned c.intern_node.new.region.records c.intern_node-2.new.region.records (spelling (truth_node false)) c.intern_node-2.result = rw c.truth-2.ensures at c.intern_node-2.ensures.interned in
    truths_kept c.args.region.now.records c.intern_node.new.region.records c.requires.empty c.intern_node.result (true_back after) (true_interned after)
    c.intern_node-2.new.region.records c.intern_node-2.result back interned
    c.intern_node-2.new.slots c.intern_node-2.new.region.most_words c.intern_node-2.new.region.most_records c.intern_node-2.ensures.index c.intern_node-2.ensures.sizes
