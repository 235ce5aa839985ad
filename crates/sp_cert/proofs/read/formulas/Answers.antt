use Rattle.std.proofs.Common.{◌∷◌, [], sym, ap, ◌∙◌}
use Rattle.std.proofs.lemmas.Result.{err_from_is_err_and}
use Rattle.std.proofs.Common.{map}
use Rattle.std.proofs.lemmas.List.{map-append}
use Rattle.sp_cert.specs.Tree.{tree, trees}
use Rattle.sp_cert.proofs.Turns.{formula_refused, formula_added, formulas_done, formulas_read}
use Rattle.sp_cert.proofs.read.formulas.Goals as goal
use Rattle.sp_cert.proofs.read.formulas.Goals.{else-loop-turn-test, then-loop-turn-test+then-is_done}

pub returns-in_err-formula : goal.returns-in_err-formula
returns-in_err-formula c =
    let (d, u, v) = err_from_is_err_and c.from_residual.result c.from_residual.ensures.1 in
    formula_refused c.args.format 64 _ c.loop-turn.turn (trees c.loop-turn.certs) c.loop-turn.lines c.loop-turn-test.true (sym c.if-is_done.false ∙ c.is_done.ensures) _ _ c.in_err-formula.was c.formula.ensures u v c.loop-turn.invariant

pub loop-turn-preserved : goal.loop-turn-preserved
loop-turn-preserved c =
    formula_added c.args.format 64 _ c.loop-turn.turn (trees c.loop-turn.certs) c.loop-turn.lines c.loop-turn-test.true (sym c.if-is_done.false ∙ c.is_done.ensures) _ c.in_ok-formula.was c.formula.ensures (ap (map tree) c.in_ok-push.ensures.items ∙ map-append tree c.loop-turn.certs.items (c.in_ok-formula.field-0 ∷ [])) c.loop-turn.invariant

pub returns : goal.returns
returns c = elim c.loop-turn-test.branch [
  | else-loop-turn-test w ↦ formulas_read c.args.format 64 _ c.loop-turn.turn (trees c.loop-turn.certs) c.loop-turn.lines w.loop-turn-test.false c.loop-turn.invariant
  | then-loop-turn-test+then-is_done w ↦ formulas_done c.args.format 64 _ c.loop-turn.turn (trees c.loop-turn.certs) c.loop-turn.lines w.loop-turn-test.true (sym w.if-is_done.true ∙ w.is_done.ensures) c.loop-turn.invariant
]
