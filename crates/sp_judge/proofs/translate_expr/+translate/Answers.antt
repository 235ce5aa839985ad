use Rattle.std.proofs.Common.{sym, ◌∙◌, ap, subst, arith, ◌+◌, ◌≤◌, ◌++◌, ◌∷◌, [], map, take, length}
use Rattle.std.specs.Option.{option_copied}
use Rattle.sp_text.specs.declared.limits.TheConstants.{MOST_QUANTIFIERS}
use Rattle.sp_core.specs.Measures.{quantifiers}
use Rattle.sp_core.specs.Tree.{tree}
use Rattle.sp_expand.specs.Parts.{AreParts, IsPartList, parts_numbers}
use Rattle.sp_expand.proofs.Moved.{parts-joined}
use Rattle.sp_expand.proofs.Scoped.{parts_few}
use Rattle.sp_plain.specs.Text.{text, texts_of}
use Rattle.sp_judge.specs.Translation.{translation, translations}
use Rattle.sp_judge.proofs.Scoped.{translations_scoped, weight-part, binders-part, translations-next, fine_at, few_is}
use Rattle.sp_judge.proofs.translate_expr.+translate.Goals as goal

pub translate_list-translate-requires : goal.translate_list-translate-requires
translate_list-translate-requires t c = (
  omega (arith, weight-part c.args.args.now c.loop-arg.arg-index c.arg-item.result c.loop-arg-test.true c.arg-item.is),
  (c.requires.fine, omega (arith, c.requires.room, binders-part c.args.args.now c.loop-arg.arg-index c.arg-item.result c.loop-arg-test.true c.arg-item.is)),
)

pub translate_parts-translate-requires : goal.translate_parts-translate-requires
translate_parts-translate-requires t c = (
  omega (arith, weight-part c.args.args.now c.loop-arg.arg-index c.arg-item.result c.loop-arg-test.true c.arg-item.is),
  (c.requires.fine, omega (arith, c.requires.room, binders-part c.args.args.now c.loop-arg.arg-index c.arg-item.result c.loop-arg-test.true c.arg-item.is)),
)

pub translate_list-loop-arg-preserved : goal.translate_list-loop-arg-preserved
translate_list-loop-arg-preserved t c =
    subst (λ ts. IsPartList ts c.in_ok-list.list) (translations-next c.args.scope.now c.args.locals.now c.args.args.now c.loop-arg.arg-index c.arg-item.result c.loop-arg-test.true c.arg-item.is)
    (c.in_ok-list.ensures (translations c.args.scope.now c.args.locals.now (texts_of (map text (take c.loop-arg.arg-index c.args.args.now)))) (translation c.args.scope.now c.args.locals.now (text c.arg-item.result)) c.loop-arg.invariant c.in_ok-translate.ensures)

pub translate_parts-loop-arg-preserved : goal.translate_parts-loop-arg-preserved
translate_parts-loop-arg-preserved t c =
    subst (AreParts (translations c.args.scope.now c.args.locals.now (texts_of (map text (take (c.loop-arg.arg-index + 1) c.args.args.now))))) (sym c.in_ok-push.ensures.items)
    (subst (λ ts. AreParts ts (c.loop-arg.all.items ++ c.in_ok-translate.field-0 ∷ [])) (translations-next c.args.scope.now c.args.locals.now c.args.args.now c.loop-arg.arg-index c.arg-item.result c.loop-arg-test.true c.arg-item.is)
    (parts-joined (translations c.args.scope.now c.args.locals.now (texts_of (map text (take c.loop-arg.arg-index c.args.args.now)))) c.loop-arg.all.items (translation c.args.scope.now c.args.locals.now (text c.arg-item.result)) c.in_ok-translate.field-0 c.loop-arg.invariant c.in_ok-translate.ensures))

pub translate_expanded-put_within-requires : goal.translate_expanded-put_within-requires
translate_expanded-put_within-requires t c =
    let few : parts_numbers c.deref.result.now ≤ length c.args.locals.now + MOST_QUANTIFIERS =
    parts_few (translations c.args.scope.now c.args.locals.now (texts_of (map text c.args.args.now))) c.deref.result.now (length c.args.locals.now) (translations_scoped c.args.scope.now c.args.locals.now (texts_of (map text c.args.args.now)))
    (subst (AreParts (translations c.args.scope.now c.args.locals.now (texts_of (map text c.args.args.now)))) (sym c.deref.ensures.value) c.in_ok-parts-in-Some.ensures) in
    let core : quantifiers (tree c.in-Some.core.now) ≤ MOST_QUANTIFIERS =
    fine_at c.args.scope.now.cores c.args.d c.in-Some.core.now c.requires.fine (sym c.core_of.ensures ∙ ap option_copied c.in-Some.is) in
    omega (arith, few, core, few_is, c.requires.room)
