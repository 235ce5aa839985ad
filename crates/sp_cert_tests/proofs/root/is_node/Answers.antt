use Rattle.std.proofs.Common.{arith}
use Rattle.std.proofs.lemmas.Bool.{leb-true}
use Rattle.sp_cert_tests.proofs.Nodes.{looked_at}
use Rattle.sp_cert_tests.proofs.root.is_node.Goals as goal

pub returns : goal.returns
returns c = λ t.
    looked_at c.args.held c.args.node.now c.requires (leb-true c.args.node.now.count 8 t)
    (λ k b l. c.loop-place.invariant.earlier k (omega (arith, b, c.loop-place-test.false)) l)
    (λ k b l. c.loop-place.invariant.padded k (omega (arith, b, c.loop-place-test.false)) l)
