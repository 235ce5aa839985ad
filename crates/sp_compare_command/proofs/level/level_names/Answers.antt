use Rattle.std.proofs.Common.{◌≡◌, ◌∙◌, ap, ◌++◌, ◌∷◌, [], take, arith}
use Rattle.std.proofs.lemmas.List.{take_all}
use Rattle.sp_lattice.specs.Order.{Order}
use Rattle.sp_compare_command.proofs.Lists.{next_got}
use Rattle.sp_compare_command.proofs.level.level_names.Goals as goal

pub loop-level-preserved : goal.loop-level-preserved
loop-level-preserved c =
    let names = c.args.spec.now.level_names in
    let k = c.loop-level.level in
    c.in_ok-push.ensures.items
    ∙ (λ i. c.loop-level.invariant i ++ (c.in_ok-name.ensures ∙ c.bytes.ensures) i ∷ [])
    ∙ next_got names k c.level_name.result.now c.level_name.ensures.value

pub returns : goal.returns
returns c =
    let names = c.args.spec.now.level_names in
    let k = c.loop-level.level in
    let count : c.count-level-end.result ≡ c.args.spec.now.lattice.count = c.count-level-end.ensures.value ∙ ap (λ (o : Order). o.count) c.lattice-lattice.ensures.value in
    c.loop-level.invariant ∙ take_all k names (omega (arith, count, c.lattice-lattice.ensures.well_formed.level_names, c.loop-level-test.false))
