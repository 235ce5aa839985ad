use Rattle.std.proofs.Common.{◌≡◌, ◌+◌, ◌++◌, sym, ◌∙◌, ap, arith, append_assoc, map, suc, take}
use Rattle.sp_core.specs.Effects.{changes, changes_in, effect_tree, effect_trees_of}
use Rattle.sp_ranks.specs.Heights.{raised}
use Rattle.sp_ranks.proofs.Forms.{every_raised, if_raised, on_ok, raised_next}
use Rattle.sp_ranks.proofs.heights.+raising.Goals as goal

pub raise_one-returns-in_ok-raise_all-in-If : goal.raise_one-returns-in_ok-raise_all-in-If
raise_one-returns-in_ok-raise_all-in-If t c =
    let hs = c.args.heights.now in
    let out = c.args.out.now.items in
    let A = raised hs (changes_in (effect_trees_of (map effect_tree c.as_slice-in-If.result.now))) in
    let B = raised hs (changes_in (effect_trees_of (map effect_tree c.as_slice-in-If-2.result.now))) in
    on_ok _ _ c.raise_all-in-If.result (λ h. h ∙ ap (λ xs. xs ++ B) c.in_ok-raise_all-in-If.ensures ∙ append_assoc out A B
    ∙ ap (λ xs. out ++ xs) (sym (if_raised hs c.args.effect.now c.in-If.field-0 c.in-If.then c.in-If.otherwise c.as_slice-in-If.result.now c.as_slice-in-If-2.result.now c.in-If.is c.as_slice-in-If.ensures c.as_slice-in-If-2.ensures)))
    c.raise_all-in-If.ensures

pub raise_one-returns-in-Every : goal.raise_one-returns-in-Every
raise_one-returns-in-Every t c =
    let hs = c.args.heights.now in
    on_ok _ _ c.raise_all-in-Every.result (λ h. h
    ∙ ap (λ xs. c.args.out.now.items ++ xs) (sym (every_raised hs c.args.effect.now c.in-Every.field-0 c.in-Every.field-1 c.in-Every.body c.as_slice-in-Every.result.now c.in-Every.is c.as_slice-in-Every.ensures)))
    c.raise_all-in-Every.ensures

pub raise_all-loop-effect-preserved : goal.raise_all-loop-effect-preserved
raise_all-loop-effect-preserved t c =
    let hs = c.args.heights.now in
    let es = c.args.effects.now in
    let out = c.args.out.now.items in
    let k = c.loop-effect.effect-index in
    let more : suc k ≡ k + 1 = omega arith in
    let one = raised hs (changes (effect_tree c.effect-item.result)) in
    c.in_ok-raise_one.ensures ∙ ap (λ xs. xs ++ one) c.loop-effect.invariant
    ∙ append_assoc out (raised hs (changes_in (effect_trees_of (map effect_tree (take k es))))) one
    ∙ ap (λ xs. out ++ xs) (sym (raised_next hs es k c.effect-item.result c.loop-effect-test.true c.effect-item.is)
    ∙ ap (λ n. raised hs (changes_in (effect_trees_of (map effect_tree (take n es))))) more)
