use Rattle.sp_prove_command.proofs.Printing.{answered}
use Rattle.sp_prove_command.proofs.prove.answered.Goals as goal

pub returns : goal.returns
returns c =
    answered c.args.spec c.in_ok-formulas.formulas c.items.result.now c.items-2.result.now c.in_ok-proofs.proofs.decisions.items c.told.result c.items.ensures c.items-2.ensures
    c.in_ok-formulas.ensures.does c.in_ok-proofs.ensures.decided c.told.ensures
