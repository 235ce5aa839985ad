use Rattle.std.proofs.Common.{◌∙◌}
use Rattle.sp_values.specs.Identity.{same_values}
use Rattle.sp_values.proofs.IdentityLemmas.{same_list}
use Rattle.sp_values.proofs.args.ArgsPartialEq.eq.Goals as goal

pub returns : goal.returns
returns c =
    same_list c.values.result.now c.values-2.result.now c.eq.result c.eq.ensures
    ∙ (λ i. same_values (c.values.ensures.value i) (c.values-2.ensures.value i))
