use Rattle.std.proofs.Common.{take}
use Rattle.std.specs.List.{flat_map}
use Rattle.sp_core.specs.declared.function.TypeInfo.{TypeInfo}
use Rattle.sp_mapping_rules.specs.Types.{missing}
use Rattle.sp_mapping_rows.proofs.Lists.{judged}
use Rattle.sp_mapping_rows.proofs.types.all_missing.Goals as goal

pub loop-info-preserved : goal.loop-info-preserved
loop-info-preserved c =
    let make = λ (i : TypeInfo). missing c.args.place c.args.names.now i.name in
    let xs = c.args.types.now in
    let i = c.loop-info.info-index in
    let x = c.info-item.result in
    judged make xs i x c.earlier-found.result c.loop-info-test.true c.info-item.is (c.earlier-found.ensures (flat_map make (take i xs)) (make x) c.loop-info.invariant c.missing.ensures)
