use Rattle.std.proofs.Common.{◌∙◌, ap, arith}
use Rattle.sp_rules.specs.Facts.{holds_in}
use Rattle.sp_rules.specs.Terms.{count}
use Rattle.sp_checker.proofs.Faults.{same_tables}
use Rattle.sp_checker.proofs.Rooms.{enough}
use Rattle.sp_checker.proofs.lift.shared_count.Goals as goal

pub follow_shared-shared-requires-clause-room : goal.follow_shared-shared-requires-clause-room
follow_shared-shared-requires-clause-room c =
    let n = count c.args.terms.now in
    let room = enough c.args.eq.now c.args.le.now n _ c.requires.eq c.requires.le c.requires.room in
    omega (arith, room)

pub returns-clause-same : goal.returns-clause-same
returns-clause-same c =
    same_tables c.args.eq.now c.args.le.now c.undo.new.eq c.undo.new.le c.tell_within.ensures.table c.tell_within-2.ensures.table c.tell_within-3.ensures.table c.tell_within-4.ensures.table
    (c.undo.ensures.eq ∙ c.follow_shared-shared.ensures.eq) (c.undo.ensures.le ∙ c.follow_shared-shared.ensures.le)
    (c.undo.ensures.has (holds_in c.args.eq.now c.args.le.now) c.follow_shared-shared.ensures.trailed)
