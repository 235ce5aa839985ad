use Rattle.std.proofs.Common.{arith}
use Rattle.sp_making.proofs.Numbered.{modules_all, modules_told}
use Rattle.sp_making.proofs.numbers.tell_modules.Goals as goal

pub loop-m-preserved : goal.loop-m-preserved
loop-m-preserved c = modules_told c.args.modules.now c.loop-m.m-index c.m-item.result c.loop-m-test.true c.m-item.is c.loop-m.invariant c.tell_module.ensures

pub returns : goal.returns
returns c = modules_all c.args.modules.now c.loop-m.m-index (omega (arith, c.loop-m-test.false)) c.loop-m.invariant
