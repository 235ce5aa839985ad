use Rattle.std.proofs.Common.{◌+◌, Err, Ok, arith, drop, subst, sym}
use Rattle.std.proofs.lemmas.List.Elements.{All-get_or}
use Rattle.std.proofs.lemmas.Result.{err_from_is_err_and}
use Rattle.sp_frame.specs.Endings.{Printing}
use Rattle.sp_frame.specs.Uncertified.{spells}
use Rattle.sp_frame.proofs.Lists.{First, all_done, next_done, next_stops}
use Rattle.sp_hierarchy.specs.Judged.{IsMappedTo}
use Rattle.sp_hierarchy_command.specs.Hierarchy.{MappedAnswered}
use Rattle.sp_hierarchy_command.proofs.Printing.{reported}
use Rattle.sp_hierarchy_command.proofs.hierarchy.answer_mappings.Goals as goal

pub mapped_answered-requires : goal.mapped_answered-requires
mapped_answered-requires c =
    subst (IsMappedTo c.args.members.now) (sym c.mapped-item.is) (All-get_or (IsMappedTo c.args.members.now) c.args.mappings.now c.loop-mapped.mapped-index c.mapped-item.result (omega arith) c.requires)

pub returns-in_err-report : goal.returns-in_err-report
returns-in_err-report c =
    let p = err_from_is_err_and c.from_residual.result c.from_residual.ensures.1 in
    let ms = c.args.members.now in
    rw (p.1, p.2)
    (reported (MappedAnswered ms) c.args.mappings.now (Err _)
    (next_stops (λ k. Printing spells (MappedAnswered ms k)) _ c.loop-mapped.mapped-index _ c.mapped-item.result _ (omega arith) c.mapped-item.is c.loop-mapped.invariant c.in_err-report.ensures))

pub loop-mapped-preserved : goal.loop-mapped-preserved
loop-mapped-preserved c =
    let ms = c.args.members.now in
    subst (First (λ k. Printing spells (MappedAnswered ms k)) c.args.mappings.now (drop (c.loop-mapped.mapped-index + 1) c.args.mappings.now)) (sym c.in_ok-push.ensures.items)
    (next_done (λ k. Printing spells (MappedAnswered ms k)) _ c.loop-mapped.mapped-index _ c.mapped-item.result _ (omega arith) c.mapped-item.is c.loop-mapped.invariant c.in_ok-report.ensures)

pub returns : goal.returns
returns c =
    let ms = c.args.members.now in
    rw c.new.ensures (reported (MappedAnswered ms) c.args.mappings.now (Ok _) (all_done (λ k. Printing spells (MappedAnswered ms k)) _ c.loop-mapped.mapped-index _ (omega arith) c.loop-mapped.invariant))
