use Rattle.std.proofs.Common.{◌≤◌, List, length, subst, sym}
use Rattle.std.proofs.lemmas.Result.{err_from_is_err_and}
use Rattle.sp_text.specs.declared.limits.TheConstants.{MOST_FORMULAS}
use Rattle.sp_sequent.specs.declared.formula.Formula.{Formula as Made}
use Rattle.sp_frame.specs.Uncertified.{spells}
use Rattle.sp_frame.proofs.Connective.{prints_refused}
use Rattle.sp_hierarchy_command.specs.Hierarchy.{MapFormulasListed}
use Rattle.sp_hierarchy_command.proofs.Printing.{mapping_told}
use Rattle.sp_hierarchy_command.proofs.parts.mapping_answered.Goals as goal

pub owned_answered-requires-clause-few : goal.owned_answered-requires-clause-few
owned_answered-requires-clause-few c = subst (λ (fs : List Made). length fs ≤ MOST_FORMULAS) (sym c.items.ensures) c.in_ok-formulas.ensures.few

pub returns : goal.returns
returns c =
    let m = c.args.mapping.now in
    mapping_told c.args.spec.now m c.in_ok-formulas.formulas c.items.result.now c.in_ok-line.line.items c.owned_answered.result c.items.ensures c.in_ok-line.ensures c.in_ok-formulas.ensures.does c.owned_answered.ensures

pub returns-in_err-formulas : goal.returns-in_err-formulas
returns-in_err-formulas c =
    let e = err_from_is_err_and c.from_residual.result c.from_residual.ensures.1 in
    rw (e.1, e.2) (prints_refused spells (MapFormulasListed c.args.spec.now c.args.mapping.now) _ _ c.in_err-formulas.ensures.does)
