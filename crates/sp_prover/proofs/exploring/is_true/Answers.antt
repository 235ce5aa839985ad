use Rattle.std.proofs.Common.{◌↔◌, true, subst}
use Rattle.std.specs.Prelude.{IsTrue}
use Rattle.sp_rules.specs.Facts.{has_truth}
use Rattle.sp_saturate.specs.Situations.{IsFollowing}
use Rattle.sp_prover.proofs.exploring.is_true.Goals as goal

pub returns : goal.returns
returns c = subst (λ t. IsTrue c.holds.result ↔ IsFollowing c.args.facts.now (has_truth t true)) c.term_of.ensures c.holds.ensures
