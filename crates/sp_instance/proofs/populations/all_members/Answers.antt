use Rattle.std.proofs.Common.{take}
use Rattle.std.specs.List.{flat_map}
use Rattle.sp_instance.specs.Populations.{type_broken, type_members}
use Rattle.sp_instance.proofs.Lists.{judged, mapped_as}
use Rattle.sp_instance.proofs.populations.all_members.Goals as goal

pub loop-info-preserved : goal.loop-info-preserved
loop-info-preserved c =
    let rows = c.args.rows.now in
    let make = type_broken c.args.span rows in
    let xs = c.args.types.now in
    let i = c.loop-info.info-index in
    let x = c.info-item.result in
    record {
      made = mapped_as (λ names. names.items) (type_members rows) xs i x _ _ _ c.loop-info-test.true c.info-item.is c.loop-info.invariant.made c.in_ok-push.ensures.items c.in_ok-made.ensures.made;
      found = judged make xs i x c.earlier-found.result c.loop-info-test.true c.info-item.is (c.earlier-found.ensures (flat_map make (take i xs)) (make x) c.loop-info.invariant.found c.in_ok-made.ensures.found);
    }
