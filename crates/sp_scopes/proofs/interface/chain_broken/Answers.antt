use Rattle.std.proofs.Common.{◌∙◌, ap, take}
use Rattle.std.specs.List.{flat_map}
use Rattle.sp_text.specs.Violations.{first}
use Rattle.sp_naming.proofs.Gathering.{gather_next}
use Rattle.sp_naming.specs.Names.{named}
use Rattle.sp_scopes.specs.Headers.{asked}
use Rattle.sp_scopes.specs.Interfaces.{is_level, level_rule}
use Rattle.sp_scopes.proofs.interface.chain_broken.Goals as goal

pub loop-x-preserved : goal.loop-x-preserved
loop-x-preserved c =
    let rule = (level_rule c.args.declared.now) in
    let xs = c.args.chain.now in
    let i = c.loop-x.x-index in
    let x = c.x-item.result in
    c.earlier-found.ensures (flat_map rule (take i xs)) (rule x) c.loop-x.invariant (c.asked_level.ensures ∙ ap (λ o. first (asked is_level c.x-item.result.span o)) (c.named.ensures ∙ ap (named c.args.declared.now) c.bytes.ensures)) ∙ ap first (gather_next rule xs i x c.loop-x-test.true c.x-item.is)
