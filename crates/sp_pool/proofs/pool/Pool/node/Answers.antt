use Rattle.std.proofs.Common.{Some, sym, ap, ◌∙◌}
use Rattle.std.specs.List.{slice_get}
use Rattle.std.specs.Option.{option_map}
use Rattle.std.proofs.lemmas.Option.{slice_get-map}
use Rattle.sp_pool.specs.Spelling.{node_of}
use Rattle.sp_pool.proofs.Held.{some_words, few_words}
use Rattle.sp_pool.proofs.pool.Pool.node.Goals as goal

pub node_of-requires-clause-some : goal.node_of-requires-clause-some
node_of-requires-clause-some c = some_words c.record.result.now (c.self.invariant.spelled c.args.t.0 c.record.result.now c.record.ensures)

pub node_of-requires-clause-few : goal.node_of-requires-clause-few
node_of-requires-clause-few c = few_words c.record.result.now (c.self.invariant.spelled c.args.t.0 c.record.result.now c.record.ensures)

pub returns-clause-node : goal.returns-clause-node
returns-clause-node c =
    ap (λ nodes. slice_get nodes c.args.t.0) (sym c.self.view_is)
    ∙ slice_get-map node_of c.self.inside.region.records c.args.t.0
    ∙ ap (option_map node_of) c.record.ensures
    ∙ ap Some (sym c.node_of.ensures)
