use Rattle.std.proofs.Common.{arith, sym, subst}
use Rattle.std.specs.List.{All}
use Rattle.std.specs.Str.{IsUtf8}
use Rattle.std.proofs.lemmas.List.Elements.{All-get_or, All-nil, All-push}
use Rattle.std.proofs.lemmas.Result.{err_from_is_err_and}
use Rattle.sp_frame.proofs.Lists.{LoadsFirst, all_loaded, next_loaded, next_refused, none_loaded}
use Rattle.sp_hierarchy.specs.Texts.{IsTextName, NamedRead, SystemsRead}
use Rattle.sp_hierarchy.proofs.texts.load_systems.Goals as goal

pub load_named-requires : goal.load_named-requires
load_named-requires g c = subst IsUtf8 (sym c.name-item.is) (All-get_or IsUtf8 c.args.names.now c.loop-name.name-index c.name-item.result (omega arith) c.requires)

pub returns-in_err-system-clause-loads : goal.returns-in_err-system-clause-loads
unfolding SystemsRead
returns-in_err-system-clause-loads g c =
    let p = err_from_is_err_and c.from_residual.result c.from_residual.ensures.1 in
    rw (p.1, p.2) (next_refused _ _ (λ files name. NamedRead name files) _ _ _ c.loop-name.name-index _ c.loop-name.invariant.0 _ c.name-item.result (omega arith) c.name-item.is _ c.in_err-system.ensures.loads)

pub loop-name-preserved : goal.loop-name-preserved
loop-name-preserved g c = (
  subst (LoadsFirst _ _ _ _ (λ files name. NamedRead name files) _ _) (sym c.in_ok-push.ensures.items)
      (next_loaded _ _ (λ files name. NamedRead name files) _ _ _ c.loop-name.name-index _ c.loop-name.invariant.0 _ c.name-item.result (omega arith) c.name-item.is _ c.in_ok-system.ensures.loads),
  subst (All IsTextName) (sym c.in_ok-push.ensures.items) (All-push IsTextName c.loop-name.systems.items c.in_ok-system.system c.loop-name.invariant.1 c.in_ok-system.ensures.named),
)

pub returns-clause-loads : goal.returns-clause-loads
unfolding SystemsRead
returns-clause-loads g c = rw c.new.ensures (all_loaded _ _ (λ files name. NamedRead name files) _ _ _ c.loop-name.name-index _ c.loop-name.invariant.0 (omega arith))

pub returns-clause-named : goal.returns-clause-named
returns-clause-named g c = rw c.new.ensures c.loop-name.invariant.1
