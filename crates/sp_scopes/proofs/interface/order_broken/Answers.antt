use Rattle.std.proofs.Common.{◌∙◌, ap, take}
use Rattle.std.specs.List.{flat_map}
use Rattle.sp_text.specs.Violations.{first}
use Rattle.sp_naming.proofs.Gathering.{gather_next}
use Rattle.sp_scopes.specs.Interfaces.{level_rule}
use Rattle.sp_scopes.proofs.interface.order_broken.Goals as goal

pub loop-chain-preserved : goal.loop-chain-preserved
loop-chain-preserved c =
    let rule = (flat_map (level_rule c.args.declared.now)) in
    let xs = c.args.chains.now in
    let i = c.loop-chain.chain-index in
    let x = c.chain-item.result in
    c.earlier-found.ensures (flat_map rule (take i xs)) (rule x) c.loop-chain.invariant (c.chain_broken.ensures ∙ ap (λ xs. first (flat_map (level_rule c.args.declared.now) xs)) c.items.ensures) ∙ ap first (gather_next rule xs i x c.loop-chain-test.true c.chain-item.is)
