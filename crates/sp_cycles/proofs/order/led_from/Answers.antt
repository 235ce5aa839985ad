use Rattle.std.proofs.Common.{sym, ◌∙◌, ap, subst, arith, Some, ◌+◌}
use Rattle.std.proofs.lemmas.Option.{slice_get-get_or}
use Rattle.sp_cycles.proofs.Reached.{IsFound, found_all, found_few, found_next, found_none}
use Rattle.sp_cycles.proofs.order.led_from.Goals as goal

pub loop-done-init : goal.loop-done-init
loop-done-init c = subst (IsFound c.args.quotes.now c.args.from 0) (sym c.in_ok-all.ensures.items) (found_none c.args.quotes.now c.args.from)

pub returns-then-done-len : goal.returns-then-done-len
returns-then-done-len c = found_all c.args.quotes.now c.args.from c.loop-done.done c.loop-done.all.items c.loop-done.invariant (omega (arith, c.len.ensures, c.if-done-len.true))

pub loop-done-preserved : goal.loop-done-preserved
loop-done-preserved c =
    let xs = c.loop-done.all.items in
    let k = c.loop-done.done in
    let there = slice_get-get_or xs k c.index-next.result.now (omega (arith, c.len.ensures, c.if-done-len.false, c.loop-done.invariant.within)) in
    subst (IsFound c.args.quotes.now c.args.from (k + 1)) (sym c.in_ok-push_readers.ensures)
    (found_next c.args.quotes.now c.args.from k c.index-next.result.now xs c.loop-done.invariant (there ∙ ap Some (sym c.index-next.ensures)))

pub returns : goal.returns
returns c =
    let few = found_few c.args.quotes.now c.args.from c.loop-done.done c.loop-done.all.items c.loop-done.invariant in
    found_all c.args.quotes.now c.args.from c.loop-done.done c.loop-done.all.items c.loop-done.invariant (omega (arith, few, c.loop-done-test.false))
