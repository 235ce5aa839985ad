use Rattle.std.proofs.Common.{◌<◌, arith}
use Rattle.std.proofs.lemmas.List.Elements.{All-from_get_or}
use Rattle.sp_pool.specs.Nodes.{term}
use Rattle.sp_cert_tests.proofs.root.are_terms.Goals as goal

pub returns : goal.returns
returns c = λ t. All-from_get_or (λ x. x.0 < c.args.count) c.args.terms.now (term 0) (λ k l. c.loop-place.invariant k (omega (arith, l, c.loop-place-test.false)))
