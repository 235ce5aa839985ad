use Rattle.std.proofs.lemmas.Result.{err_from_is_err_and}
use Rattle.sp_hierarchy.proofs.Meant.{made_to, mapping_stops}
use Rattle.sp_hierarchy.proofs.mappings.judge_mapping.Goals as goal

pub returns-clause-mapped : goal.returns-clause-mapped
returns-clause-mapped c = made_to c.args.members.now c.args.row.now c.in_ok-upper.upper c.in_ok-lower.lower c.in_ok-mapping.mapping c.in_ok-mapping.ensures

pub returns-in_err-mapping-clause-does : goal.returns-in_err-mapping-clause-does
returns-in_err-mapping-clause-does c =
    let p = err_from_is_err_and c.from_residual-in_err-mapping.result c.from_residual-in_err-mapping.ensures.1 in
    rw (p.1, p.2) (mapping_stops c.args.members.now c.args.row.now c.in_ok-upper.upper c.in_ok-lower.lower _ c.in_ok-name_mapping.ensures c.in_ok-upper.ensures.does c.in_ok-lower.ensures.does c.in_err-mapping.ensures)
