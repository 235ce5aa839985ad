use Rattle.std.proofs.Common.{◌∙◌, ap, arith, length, map}
use Rattle.sp_cert.specs.Tree.{tree}
use Rattle.sp_formulas.specs.Typed.{IsTypedFormula}
use Rattle.sp_verify_command.proofs.Progress.{all_judged, next_judged, typed_at}
use Rattle.sp_verify_command.proofs.judging.judge_all.Goals as goal

pub judge_at-requires-clause-typed : goal.judge_at-requires-clause-typed
judge_at-requires-clause-typed c = typed_at (IsTypedFormula c.args.spec.now) c.args.formulas.now c.loop-k.k c.index-formulas-k.result c.requires.typed (omega arith) c.index-formulas-k.is

pub loop-k-preserved : goal.loop-k-preserved
loop-k-preserved c = (
  ap length c.judge_at.ensures.pool ∙ c.loop-k.invariant.0,
  next_judged c.args.spec.now c.args.formulas.now (map tree c.args.certs.now) c.loop-k.k c.loop-k.all.items _ c.index-formulas-k.result c.in_ok-judgement.judgement (omega arith) c.index-formulas-k.is
      c.in_ok-judgement.ensures.judged c.in_ok-push.ensures.items c.loop-k.invariant.1,
)

pub returns : goal.returns
returns c = c.new-2.ensures ∙ all_judged c.args.spec.now c.args.formulas.now (map tree c.args.certs.now) c.loop-k.k c.loop-k.all.items (omega arith) c.loop-k.invariant.1
