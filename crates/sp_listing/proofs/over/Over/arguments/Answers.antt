use Rattle.std.proofs.Common.{◌≡◌, ◌+◌, ◌++◌, ◌∷◌, [], sym, ◌∙◌, ap, arith, map, suc, take}
use Rattle.sp_core.specs.Tree.{tree, trees_of}
use Rattle.sp_eval.specs.Settings.{tree_values}
use Rattle.sp_listing.proofs.Typed.{argument_in, few_before, values_next}
use Rattle.sp_listing.proofs.over.Over.arguments.Goals as goal

pub value-requires : goal.value-requires
value-requires c = argument_in c.args.self.now c.args.env.now c.args.parts.now c.requires c.loop-part.part-index c.part-item.result c.loop-part-test.true c.part-item.is

pub push-requires : goal.push-requires
push-requires c = few_before c.args.self.now c.args.env.now c.args.parts.now c.requires c.loop-part.part-index c.loop-part-test.true c.loop-part.args c.loop-part.invariant

pub loop-part-preserved : goal.loop-part-preserved
loop-part-preserved c =
    let k = c.loop-part.part-index in
    let more : suc k ≡ k + 1 = omega arith in
    c.push.ensures ∙ (λ i. c.loop-part.invariant i ++ c.value.ensures i ∷ [])
    ∙ sym (values_next c.args.self.now c.args.env.now c.args.parts.now k c.part-item.result c.loop-part-test.true c.part-item.is)
    ∙ ap (λ n. tree_values c.args.self.now c.args.env.now (trees_of (map tree (take n c.args.parts.now)))) more
