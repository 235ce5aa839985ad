use Rattle.std.proofs.Common.{take}
use Rattle.std.specs.List.{flat_map}
use Rattle.sp_instance.specs.Heads.{kind_broken}
use Rattle.sp_instance.proofs.Lists.{judged}
use Rattle.sp_instance.proofs.heads.kinds.Goals as goal

pub loop-x-preserved : goal.loop-x-preserved
loop-x-preserved c =
    let make = kind_broken c.args.asked.now c.args.all.now in
    let xs = c.args.xs.now in
    let i = c.loop-x.x-index in
    let x = c.x-item.result in
    judged make xs i x c.earlier-found.result c.loop-x-test.true c.x-item.is (c.earlier-found.ensures (flat_map make (take i xs)) (make x) c.loop-x.invariant c.kind.ensures)
