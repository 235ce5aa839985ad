use Rattle.std.proofs.Common.{sym, ◌∙◌, ap, subst, arith, ◌+◌, ◌≤◌, ◌++◌, ◌∷◌, [], map, take}
use Rattle.std.specs.Option.{option_copied}
use Rattle.sp_text.specs.declared.limits.TheConstants.{MOST_QUANTIFIERS}
use Rattle.sp_core.specs.Measures.{quantifiers}
use Rattle.sp_core.specs.Tree.{tree, trees_of}
use Rattle.sp_expand.specs.Parts.{AreParts, parts_numbers}
use Rattle.sp_expand.proofs.Moved.{parts-joined}
use Rattle.sp_expand.proofs.Scoped.{parts_few}
use Rattle.sp_expand.proofs.TreeLemmas.{nodes-part}
use Rattle.sp_judge.proofs.Scoped.{few_is, fine_at}
use Rattle.sp_mapping_rules.specs.Levels.{level_over, levels_over}
use Rattle.sp_mapping_rows.proofs.Arguments.{levels-next, scoped-part}
use Rattle.sp_mapping_rows.proofs.Scoped.{levels_scoped}
use Rattle.sp_mapping_rows.proofs.levels.+level.Goals as goal

pub levels_over-level_over-requires : goal.levels_over-level_over-requires
levels_over-level_over-requires t c = (
  omega (arith, nodes-part c.args.args.now c.loop-arg.arg-index c.arg-item.result c.loop-arg-test.true c.arg-item.is),
  (c.requires.fine, (scoped-part c.args.n c.args.args.now c.loop-arg.arg-index c.arg-item.result c.requires.scoped c.loop-arg-test.true c.arg-item.is, c.requires.few)),
)

pub levels_over-loop-arg-preserved : goal.levels_over-loop-arg-preserved
levels_over-loop-arg-preserved t c =
    let ts = c.args.types.now in
    let ps = c.args.cores.now in
    let n = c.args.n in
    let ds = c.args.args.now in
    let k = c.loop-arg.arg-index in
    let d = c.arg-item.result in
    subst (AreParts (levels_over ts ps n (trees_of (map tree (take (k + 1) ds))))) (sym c.in_ok-push.ensures.items)
    (subst (λ es. AreParts es (c.loop-arg.all.items ++ c.in_ok-level_over.field-0 ∷ [])) (levels-next ts ps n ds k d c.loop-arg-test.true c.arg-item.is)
    (parts-joined (levels_over ts ps n (trees_of (map tree (take k ds)))) c.loop-arg.all.items (level_over ts ps n (tree d)) c.in_ok-level_over.field-0 c.loop-arg.invariant c.in_ok-level_over.ensures))

pub param_over-put_within-requires : goal.param_over-put_within-requires
param_over-put_within-requires t c =
    let ts = c.args.types.now in
    let ps = c.args.cores.now in
    let n = c.args.n in
    let ds = trees_of (map tree c.args.args.now) in
    let few : parts_numbers c.deref.result.now ≤ n + MOST_QUANTIFIERS =
    parts_few (levels_over ts ps n ds) c.deref.result.now n (levels_scoped ts ps n ds c.requires.scoped) (subst (AreParts (levels_over ts ps n ds)) (sym c.deref.ensures.value) c.in_ok-parts-in-Some.ensures) in
    let core : quantifiers (tree c.in-Some.core.now) ≤ MOST_QUANTIFIERS = fine_at ps c.args.q c.in-Some.core.now c.requires.fine (sym c.at.ensures ∙ ap option_copied c.in-Some.is) in
    omega (arith, few, core, few_is, c.requires.few)
