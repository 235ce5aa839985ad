use Rattle.std.proofs.Common.{◌≤◌, List, length, map, option_copied, subst, sym}
use Rattle.sp_text.specs.declared.limits.TheConstants.{MOST_FORMULAS}
use Rattle.sp_sequent.specs.declared.formula.Formula.{Formula as Made}
use Rattle.std.proofs.lemmas.Result.{err_from_is_err_and}
use Rattle.sp_frame.proofs.Connective.{prints_refused}
use Rattle.sp_frame.specs.Steps.{Gives, Then}
use Rattle.sp_frame.specs.Uncertified.{spells}
use Rattle.sp_formula_list.specs.Listed.{FormulasListed}
use Rattle.sp_deciding.specs.Decided.{AllDecided}
use Rattle.sp_check_command.specs.Check.{check_answer}
use Rattle.sp_check_command.proofs.Printing.{answered, closed, undecided}
use Rattle.sp_check_command.proofs.check.check_answered.Goals as goal

pub decide_all-requires-clause-few : goal.decide_all-requires-clause-few
decide_all-requires-clause-few c = subst (λ (fs : List Made). length fs ≤ MOST_FORMULAS) (sym c.items.ensures) c.in_ok-formulas.ensures.few

pub told-requires-clause-closed : goal.told-requires-clause-closed
told-requires-clause-closed c =
    closed (option_copied c.args.owner) c.args.spec c.in_ok-formulas.formulas c.items.result.now c.items-2.result.now c.in_ok-decisions.decisions c.items-3.result.now c.items.ensures c.items-2.ensures c.items-3.ensures
    c.in_ok-decisions.ensures

pub returns : goal.returns
returns c =
    answered (option_copied c.args.owner) c.args.spec c.in_ok-formulas.formulas c.items.result.now c.items-2.result.now c.in_ok-decisions.decisions c.items-3.result.now c.told.result c.items.ensures c.items-2.ensures c.items-3.ensures
    c.in_ok-formulas.ensures.does c.in_ok-decisions.ensures c.told.ensures

pub returns-in_err-formulas : goal.returns-in_err-formulas
returns-in_err-formulas c =
    let owner = option_copied c.args.owner in
    let e = err_from_is_err_and c.from_residual.result c.from_residual.ensures.1 in
    rw (e.1, e.2)
    (prints_refused spells (FormulasListed owner c.args.spec) (λ os. Then (AllDecided owner c.args.spec 1 os) (λ ds. Gives (check_answer c.args.spec os ds))) _ c.in_err-formulas.ensures.does)

pub returns-in_err-decisions : goal.returns-in_err-decisions
returns-in_err-decisions c =
    let e = err_from_is_err_and c.from_residual-in_err-decisions.result c.from_residual-in_err-decisions.ensures.1 in
    rw (e.1, e.2) (undecided (option_copied c.args.owner) c.args.spec c.in_ok-formulas.formulas c.items.result.now _ c.items.ensures c.in_ok-formulas.ensures.does c.in_err-decisions.ensures)
