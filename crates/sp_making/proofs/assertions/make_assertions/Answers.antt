use Rattle.std.proofs.Common.{◌∙◌, IfOk, ap, subst}
use Rattle.sp_naming.specs.Numbers.{counted}
use Rattle.sp_specification.specs.Meaning.{AreAssertions, assertion_texts}
use Rattle.sp_making.specs.Seen.{at_module}
use Rattle.sp_making.proofs.Viewed.{seen_whole}
use Rattle.sp_making.proofs.assertions.make_assertions.Goals as goal

pub returns : goal.returns
returns c =
    subst (λ v. IfOk c.assertions_seen.result (λ all. AreAssertions (at_module v) (assertion_texts c.args.modules.now) all.items))
    (seen_whole c.args.scopes.now c.args.bottom c.args.top c.counted.result c.args.cores.now (c.counted.ensures ∙ ap (counted 0) c.modules.ensures) c.requires.cores)
    c.assertions_seen.ensures
