use Rattle.std.proofs.Common.{map, ap, ◌∙◌, arith}
use Rattle.std.proofs.lemmas.Result.{err_from_is_err_and}
use Rattle.sp_core.specs.Tree.{tree}
use Rattle.sp_formulas.specs.Children.{part_as}
use Rattle.sp_formulas.specs.Generated.{hypothesis_tree}
use Rattle.sp_formulas.proofs.GeneratedLemmas.{light_child, own_refused_if, own_typed, part_typed, walk_refused, walked_all_if, walked_more}
use Rattle.sp_formulas.proofs.reading.+walk.Goals as goal

pub walk-requires : goal.walk-requires
walk-requires t c = (
  omega (arith, light_child (tree c.args.e.now) c.loop-k.k (part_as c.child_at-part.result) c.child_at-part.ensures),
  (
    c.loop-k.invariant.two,
    part_typed c.args.spec.now c.args.place.now c.args.bound.now c.deref.result.now (map hypothesis_tree c.args.hyps.now) (map hypothesis_tree c.deref-in-loop-k.result.now) (tree c.args.e.now) c.loop-k.k (part_as c.child_at-part.result) c.child_at-part.ensures
        (c.deref.ensures.value ∙ c.in_ok-more.ensures.ok) (ap (map hypothesis_tree) c.deref-in-loop-k.ensures.value ∙ c.in_ok-longer.ensures.ok) c.requires.typed,
  ),
)

pub add_own-requires-clause-typed : goal.add_own-requires-clause-typed
add_own-requires-clause-typed t c = own_typed c.args.spec.now c.args.place.now c.args.bound.now (map hypothesis_tree c.args.hyps.now) (tree c.args.e.now) c.loop-k.k (omega (arith, c.child_count-k-end.ensures)) c.requires.typed

pub returns-in_err-walk-clause-refused : goal.returns-in_err-walk-clause-refused
returns-in_err-walk-clause-refused t c =
    let p = err_from_is_err_and c.from_residual-in_err-walk.result c.from_residual-in_err-walk.ensures.1 in
    rw (p.1, p.2) (walk_refused c.args.spec.now c.args.place.now c.args.bound.now c.deref.result.now (map hypothesis_tree c.args.hyps.now) (map hypothesis_tree c.deref-in-loop-k.result.now) (tree c.args.e.now) c.loop-k.k (part_as c.child_at-part.result) c.child_at-part.ensures
    (c.deref.ensures.value ∙ c.in_ok-more.ensures.ok) (ap (map hypothesis_tree) c.deref-in-loop-k.ensures.value ∙ c.in_ok-longer.ensures.ok)
    c.args.out.now.items c.loop-k.out.items _ c.loop-k.invariant.added c.in_err-walk.ensures.refused)

pub loop-k-preserved : goal.loop-k-preserved
loop-k-preserved t c = record {
  added = walked_more c.args.spec.now c.args.place.now c.args.bound.now c.deref.result.now (map hypothesis_tree c.args.hyps.now) (map hypothesis_tree c.deref-in-loop-k.result.now) (tree c.args.e.now) c.loop-k.k (part_as c.child_at-part.result) c.child_at-part.ensures
      (c.deref.ensures.value ∙ c.in_ok-more.ensures.ok) (ap (map hypothesis_tree) c.deref-in-loop-k.ensures.value ∙ c.in_ok-longer.ensures.ok)
      c.args.out.now.items c.loop-k.out.items c.walk.new.out.items c.loop-k.invariant.added c.in_ok-walk.ensures.ok;
  two = c.in_ok-walk.ensures.two;
}

pub returns-clause-ok : goal.returns-clause-ok
returns-clause-ok t c =
    walked_all_if c.args.spec.now c.args.place.now c.args.bound.now (map hypothesis_tree c.args.hyps.now) (tree c.args.e.now) c.loop-k.k (omega (arith, c.child_count-k-end.ensures)) c.args.out.now.items c.loop-k.out.items c.add_own.new.out.items c.loop-k.invariant.added c.add_own.result c.add_own.ensures.ok

pub returns-clause-refused : goal.returns-clause-refused
returns-clause-refused t c =
    own_refused_if c.args.spec.now c.args.place.now c.args.bound.now (map hypothesis_tree c.args.hyps.now) (tree c.args.e.now) c.loop-k.k (omega (arith, c.child_count-k-end.ensures)) c.args.out.now.items c.loop-k.out.items c.loop-k.invariant.added c.add_own.result c.add_own.ensures.refused
