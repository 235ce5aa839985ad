use Rattle.std.proofs.Common.{arith}
use Rattle.sp_formulas.specs.Typed.{IsTypedFormula}
use Rattle.sp_sample_command.proofs.Counting.{typed_at}
use Rattle.sp_sample_command.proofs.terms.term_count.Goals as goal

pub terms_of-requires-clause-typed : goal.terms_of-requires-clause-typed
terms_of-requires-clause-typed c =
    typed_at (IsTypedFormula c.args.spec.now) c.args.formulas.now c.loop-formula.formula-index c.formula-item.result c.requires.typed (omega (arith, c.loop-formula-test.true)) c.formula-item.is
