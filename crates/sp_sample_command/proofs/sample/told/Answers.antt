use Rattle.std.proofs.Common.{◌≡◌, ap, arith, length}
use Rattle.sp_deciding.specs.Decided.{open_count}
use Rattle.sp_deciding.proofs.Closed.{made_closed}
use Rattle.sp_sample_command.proofs.Printing.{told_none, told_open}
use Rattle.sp_sample_command.proofs.sample.told.Goals as goal

pub returns-then-open-gt0 : goal.returns-then-open-gt0
returns-then-open-gt0 c =
    told_open c.args.size c.args.spec c.args.made.now c.args.decisions.now c.open_count-open.result c.in_ok-bytes.bytes.items c.if-open-gt0.true c.open_count-open.ensures.count c.in_ok-bytes.ensures

pub accept-accepted-requires-clause-closed : goal.accept-accepted-requires-clause-closed
accept-accepted-requires-clause-closed c =
    let none : open_count c.args.decisions.now ≡ 0 = omega (arith, c.if-open-gt0.false, c.open_count-open.ensures.count) in
    made_closed c.args.spec c.args.made.now (c.requires.closed none)

pub returns : goal.returns
returns c =
    let zero_open : 0 ≡ open_count c.args.decisions.now = omega (arith, c.if-open-gt0.false, c.open_count-open.ensures.count) in
    told_none c.args.size c.args.spec c.args.made.now c.args.decisions.now _ c.in_ok-terms.terms c.in_ok-bytes-2.bytes.items zero_open (ap length c.functions-functions.ensures.value) c.in_ok-terms.ensures c.in_ok-bytes-2.ensures
