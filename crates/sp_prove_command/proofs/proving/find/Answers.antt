use Rattle.std.proofs.Common.{subst, sym}
use Rattle.sp_sequent.specs.Claims.{claim_of, question_of}
use Rattle.sp_prover.specs.Deciding.{Decides}
use Rattle.sp_prove_command.proofs.proving.find.Goals as goal

pub returns-in-Ok-Right-clause-found : goal.returns-in-Ok-Right-clause-found
returns-in-Ok-Right-clause-found c =
    let first = subst (Decides (question_of c.args.spec.now (claim_of c.args.formula.now))) c.in-Ok-Right.field-0-is c.in-Ok-Right.ensures.decides in
    (c.in-Ok-Right.branch, first, sym c.new.ensures)
