use Rattle.std.proofs.Common.{◌≡◌, map, Some, sym, ap, ◌∙◌}
use Rattle.std.specs.List.{slice_get}
use Rattle.std.proofs.lemmas.Bool.{false≢true}
use Rattle.sp_pool.specs.Nodes.{IsHeld}
use Rattle.sp_pool.specs.Spelling.{node_of, spelling}
use Rattle.sp_pool.proofs.Held.{spelled_at, node_at, tidy_node}
use Rattle.sp_pool.proofs.pool.Pool.find.Goals as goal

pub returns-then-not-is_tidy-clause-absent : goal.returns-then-not-is_tidy-clause-absent
returns-then-not-is_tidy-clause-absent c = λ h.
    let held : IsHeld (map node_of c.self.inside.region.records) c.args.n.now = rw (← c.self.view_is) at h in
    false≢true (sym c.if-not-is_tidy.true ∙ c.is_tidy.ensures.1 (tidy_node held.0 c.args.n.now (c.self.invariant.nodes.ordered held.0 c.args.n.now held.1)))

pub returns-in-Occupied-clause-found : goal.returns-in-Occupied-clause-found
returns-in-Occupied-clause-found c =
    let records = c.self.inside.region.records in
    let n = c.args.n.now in
    let there : slice_get records c.in-Occupied.number ≡ Some (spelling n) = c.in-Occupied.ensures ∙ ap Some (c.words.ensures ∙ c.of.ensures.words) in
    let back : node_of (spelling n) ≡ n = ap node_of (sym c.of.ensures.words) ∙ c.of.ensures.back in
    rw (← c.self.view_is) (node_at records c.in-Occupied.number n back there)

pub returns-in-Vacant-clause-absent : goal.returns-in-Vacant-clause-absent
returns-in-Vacant-clause-absent c = λ h.
    let records = c.self.inside.region.records in
    let n = c.args.n.now in
    let held : IsHeld (map node_of records) n = rw (← c.self.view_is) at h in
    c.in-Vacant.ensures.absent held.0 (spelled_at records c.self.invariant.spelled held.0 n held.1 ∙ ap Some (sym (c.words.ensures ∙ c.of.ensures.words)))
