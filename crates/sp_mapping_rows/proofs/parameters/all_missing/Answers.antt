use Rattle.std.proofs.Common.{take}
use Rattle.std.specs.List.{flat_map}
use Rattle.sp_core.specs.declared.function.Param.{Param}
use Rattle.sp_mapping_rules.specs.Types.{missing}
use Rattle.sp_mapping_rows.proofs.Lists.{judged}
use Rattle.sp_mapping_rows.proofs.parameters.all_missing.Goals as goal

pub loop-param-preserved : goal.loop-param-preserved
loop-param-preserved c =
    let make = λ (q : Param). missing c.args.place c.args.names.now q.name in
    let xs = c.args.params.now in
    let i = c.loop-param.param-index in
    let x = c.param-item.result in
    judged make xs i x c.earlier-found.result c.loop-param-test.true c.param-item.is (c.earlier-found.ensures (flat_map make (take i xs)) (make x) c.loop-param.invariant c.missing.ensures)
