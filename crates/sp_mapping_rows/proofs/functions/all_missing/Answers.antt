use Rattle.std.proofs.Common.{take}
use Rattle.std.specs.List.{flat_map}
use Rattle.sp_core.specs.declared.function.Function.{Function}
use Rattle.sp_core.specs.Typing.{primitive_type}
use Rattle.sp_mapping_rules.specs.Functions.{primitive_missing}
use Rattle.sp_mapping_rows.proofs.Lists.{judged}
use Rattle.sp_mapping_rows.proofs.functions.all_missing.Goals as goal

pub loop-f-preserved : goal.loop-f-preserved
loop-f-preserved c =
    let make = λ (f : Function). primitive_missing c.args.place c.args.names.now f.name (primitive_type f.kind) in
    let xs = c.args.functions.now in
    let i = c.loop-f.f-index in
    let x = c.f-item.result in
    judged make xs i x c.earlier-found.result c.loop-f-test.true c.f-item.is (c.earlier-found.ensures (flat_map make (take i xs)) (make x) c.loop-f.invariant c.judge_missing.ensures)
