use Rattle.std.proofs.Common.{List, map, subst}
use Rattle.sp_cert.specs.Tree.{tree}
use Rattle.sp_cert.specs.declared.cert.Cert.{Cert}
use Rattle.sp_frame.specs.Endings.{Printing}
use Rattle.sp_frame.specs.Steps.{Does}
use Rattle.sp_frame.specs.Uncertified.{spells}
use Rattle.sp_verify_command.specs.Verify.{VerifyAnswered, verify_answer}
use Rattle.sp_verify_command.proofs.Printing.{answered}
use Rattle.sp_verify_command.proofs.verify.answered.Goals as goal

pub returns : goal.returns
returns c =
    let p = c.args.spec in
    subst (λ (cs : List Cert). Does (Printing spells (VerifyAnswered p (map tree cs))) c.told.result) c.as_slice-certs.ensures.value
    (answered p (λ os. verify_answer p os (map tree c.as_slice-certs.result.now)) c.in_ok-formulas.formulas c.items-2.result.now c.told.result c.items-2.ensures c.in_ok-formulas.ensures.does c.told.ensures)
