use Rattle.std.proofs.Common.{◌↔◌, subst}
use Rattle.std.specs.Prelude.{IsTrue}
use Rattle.sp_saturate.specs.Situations.{supposed}
use Rattle.sp_prover.specs.Deciding.{IsDetermined}
use Rattle.sp_prover.proofs.exploring.is_settled.Goals as goal

pub returns : goal.returns
returns c =
    let s = c.args.facts.now in
    subst (λ t. IsTrue c.is_determined.result ↔ IsDetermined s.question.terms (supposed s) t) c.term_of.ensures c.is_determined.ensures
