use Rattle.std.proofs.Common.{[], ◌∷◌, ◌∙◌, ap, arith, length, map}
use Rattle.std.proofs.lemmas.List.{map-append}
use Rattle.sp_cert.specs.Tree.{tree, trees}
use Rattle.sp_formulas.specs.Typed.{IsTypedFormula}
use Rattle.sp_verify_command.proofs.Progress.{all_lifted, next_lifted, plain_at, typed_at}
use Rattle.sp_verify_command.proofs.lifting.lift_all.Goals as goal

pub lift-requires-clause-typed : goal.lift-requires-clause-typed
lift-requires-clause-typed c = typed_at (IsTypedFormula c.args.spec.now) c.args.formulas.now c.loop-k.k c.index-formulas-k.result c.requires.typed (omega arith) c.index-formulas-k.is

pub lift-requires-clause-plain : goal.lift-requires-clause-plain
lift-requires-clause-plain c = plain_at c.args.certs.now c.loop-k.k c.in-Some.cert.now c.requires.plain (omega (arith, c.in-Some.ensures.lookup)) c.in-Some.ensures.lookup.1

pub loop-k-preserved : goal.loop-k-preserved
loop-k-preserved c = (
  ap length c.lift.ensures.pool ∙ c.loop-k.invariant.0,
  next_lifted c.args.spec.now c.args.formulas.now c.args.certs.now c.loop-k.k (trees c.loop-k.all) _ c.index-formulas-k.result c.in-Some.cert.now (tree c.in_ok-lifted.lifted) (omega arith) c.index-formulas-k.is
      (omega (arith, c.in-Some.ensures.lookup)) c.in-Some.ensures.lookup.1 c.in_ok-lifted.ensures.lifted (ap (map tree) c.in_ok-push.ensures.items ∙ map-append tree c.loop-k.all.items (c.in_ok-lifted.lifted ∷ [])) c.loop-k.invariant.1,
)

pub returns : goal.returns
returns c = all_lifted c.args.spec.now c.args.formulas.now c.args.certs.now c.loop-k.k (trees c.loop-k.all) (omega arith) c.loop-k.invariant.1
