use Rattle.std.proofs.Common.{◌∙◌, ◌+◌, ap, arith, drop, length, map, option_copied, subst, sym}
use Rattle.std.proofs.lemmas.Result.{err_from_is_err_and}
use Rattle.sp_formulas.specs.Formulas.{formula_as}
use Rattle.sp_formulas.specs.Typed.{IsTypedFormula}
use Rattle.sp_deciding.proofs.Lines.{typed_at}
use Rattle.sp_deciding.proofs.Progress.{First, all_decided, next_decided, next_stops}
use Rattle.sp_deciding.proofs.deciding.decide_all.Goals as goal

pub decided_at-requires-clause-typed : goal.decided_at-requires-clause-typed
decided_at-requires-clause-typed c = typed_at (IsTypedFormula c.args.spec.now) c.args.formulas.now c.loop-k.k c.index-formulas-k.result c.requires.typed (omega arith) c.index-formulas-k.is

pub returns-in_err-decision : goal.returns-in_err-decision
returns-in_err-decision c =
    let p = err_from_is_err_and c.from_residual-in_err-decision.result c.from_residual-in_err-decision.ensures.1 in
    rw (p.1, p.2) (next_stops (option_copied c.args.owner) c.args.spec.now c.args.formulas.now c.loop-k.k c.loop-k.all.items c.index-formulas-k.result _ (omega arith) c.index-formulas-k.is c.loop-k.invariant.1 c.in_err-decision.ensures.does)

pub loop-k-preserved : goal.loop-k-preserved
loop-k-preserved c = (
  ap length c.decided_at.ensures.pool ∙ c.loop-k.invariant.0,
  subst (First (option_copied c.args.owner) c.args.spec.now (map formula_as c.args.formulas.now) (c.loop-k.k + 1 + 1) (map formula_as (drop (c.loop-k.k + 1) c.args.formulas.now))) (sym c.in_ok-push.ensures.items)
      (next_decided (option_copied c.args.owner) c.args.spec.now c.args.formulas.now c.loop-k.k c.loop-k.all.items c.index-formulas-k.result c.in_ok-decision.decision (omega arith) c.index-formulas-k.is c.loop-k.invariant.1 c.in_ok-decision.ensures.does),
)

pub returns : goal.returns
returns c = rw c.new-2.ensures (all_decided (option_copied c.args.owner) c.args.spec.now c.args.formulas.now c.loop-k.k c.loop-k.all.items (omega arith) c.loop-k.invariant.1)
