use Rattle.std.proofs.Common.{◌≡◌, ◌∙◌, ap, ◌++◌, ◌∷◌, [], take, append_assoc, arith}
use Rattle.std.proofs.lemmas.List.{take_all}
use Rattle.sp_lattice.specs.Order.{Order}
use Rattle.sp_instance.proofs.Texts.{next_got}
use Rattle.sp_instance.proofs.spec_names.push_levels.Goals as goal

pub loop-level-preserved : goal.loop-level-preserved
loop-level-preserved c =
    let start = c.args.names.now.items in
    let names = c.args.spec.now.level_names in
    let k = c.loop-level.level in
    let x = c.level_name.result.now in
    c.in_ok-push.ensures.items
    ∙ (λ i. c.loop-level.invariant i ++ (c.in_ok-name.ensures ∙ c.bytes.ensures) i ∷ [])
    ∙ append_assoc start (take k names) (x ∷ [])
    ∙ ap (λ z. start ++ z) (next_got names k x c.level_name.ensures.value)

pub returns : goal.returns
returns c =
    let start = c.args.names.now.items in
    let names = c.args.spec.now.level_names in
    let k = c.loop-level.level in
    let count : c.count-level-end.result ≡ c.args.spec.now.lattice.count = c.count-level-end.ensures.value ∙ ap (λ (o : Order). o.count) c.lattice-lattice.ensures.value in
    c.loop-level.invariant ∙ ap (λ z. start ++ z) (take_all k names (omega (arith, count, c.lattice-lattice.ensures.well_formed.level_names, c.loop-level-test.false)))
