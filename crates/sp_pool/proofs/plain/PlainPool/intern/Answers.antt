use Rattle.std.proofs.Common.{◌≡◌, ◌<◌, ◌++◌, ◌∷◌, [], length, ◌∙◌, arith, rules}
use Rattle.sp_pool.specs.Nodes.{IsHeld, IsNode}
use Rattle.sp_pool.proofs.NodeLaws.{two, pool_more, get_last}
use Rattle.sp_pool.proofs.plain.PlainPool.intern.Goals as goal

pub invariant_of-self : goal.invariant_of-self
invariant_of-self c =
    let xs = c.self.inside.nodes.items in
    let fine : IsNode (length xs) c.args.n = rw (← c.self.view_is) at c.requires in
    let eight : length c.args.n.args ≡ 8 = search rules in
    let fresh : IsHeld xs c.args.n → ⊥ = rw c.deref.ensures.value at c.in_default.ensures.absent in
    let len : c.len-count.result ≡ length xs = c.len-count.ensures ∙ c.self.inside.nodes.ok.0 in
    let room : length xs < 512 = grind (arith, c.self.invariant.0.few, len, c.if-count.false) in
    let items : c.push.new.self.items ≡ xs ++ c.args.n ∷ [] = search rules in
    (rw items (pool_more xs c.self.invariant.0 (two c.self.invariant.0) c.args.n fine eight fresh room), omega (arith, c.self.invariant.1, c.push.ensures.capacity))

pub returns-clause-here : goal.returns-clause-here
returns-clause-here c =
    let xs = c.self.inside.nodes.items in
    let items : c.push.new.self.items ≡ xs ++ c.args.n ∷ [] = search rules in
    let len : c.len-count.result ≡ length xs = c.len-count.ensures ∙ c.self.inside.nodes.ok.0 in
    rw (items, len) (get_last xs c.args.n)
