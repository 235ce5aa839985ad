use Rattle.std.proofs.Common.{◌≡◌, true, sym, ◌∙◌, subst}
use Rattle.sp_prover.specs.Deciding.{HasTruths}
use Rattle.sp_prover_tests.proofs.worked.decided.Goals as goal

pub decide_root-requires-clause-truths : goal.decide_root-requires-clause-truths
decide_root-requires-clause-truths c = subst HasTruths c.terms.ensures (sym c.clashes.ensures ∙ c.if-not-clashes.false)
