use Rattle.std.proofs.Common.{sym, ◌∙◌, ap, ◌==◌, get_or}
use Rattle.std.specs.Prelude.{if◌then◌else◌}
use Rattle.sp_cycles.specs.Reaches.{with_new}
use Rattle.sp_cycles.proofs.Reached.{blank, readers-next}
use Rattle.sp_cycles.proofs.order.push_readers.Goals as goal

pub loop-quoted-preserved : goal.loop-quoted-preserved
loop-quoted-preserved c =
    let q = get_or c.args.quotes.now c.loop-quoted.quoted-index blank in
    c.in_ok-push_reader.ensures ∙ ap (λ xs. if q.read == c.args.h then with_new xs q.changed else xs) c.loop-quoted.invariant
    ∙ sym (readers-next c.args.quotes.now c.loop-quoted.quoted-index blank c.args.h c.args.all.now.items c.loop-quoted-test.true)
