use Rattle.std.proofs.Common.{take}
use Rattle.std.specs.List.{flat_map}
use Rattle.sp_instance.specs.Scripts.{call_broken, invocation_of}
use Rattle.sp_instance.proofs.Lists.{judged, mapped}
use Rattle.sp_instance.proofs.script.calls.Goals as goal

pub loop-text-preserved : goal.loop-text-preserved
loop-text-preserved c =
    let w = c.args.words.now in
    let fs = c.args.functions.now in
    let make = call_broken fs c.args.all.now w in
    let xs = c.args.texts.now in
    let i = c.loop-text.text-index in
    let x = c.text-item.result in
    record {
      made = mapped (invocation_of fs w) xs i x _ _ _ c.loop-text-test.true c.text-item.is c.loop-text.invariant.made c.in_ok-push.ensures.items c.call-one.ensures.made;
      found = judged make xs i x c.earlier-found.result c.loop-text-test.true c.text-item.is (c.earlier-found.ensures (flat_map make (take i xs)) (make x) c.loop-text.invariant.found c.call-one.ensures.found);
    }
