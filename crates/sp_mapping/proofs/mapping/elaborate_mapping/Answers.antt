use Rattle.sp_mapping.proofs.Cores.{is_from, is_to}
use Rattle.sp_mapping.proofs.mapping.elaborate_mapping.Goals as goal

pub returns-clause-to : goal.returns-clause-to
returns-clause-to c =
    is_to c.args.upper.now c.args.lower.now c.args.scopes.now c.args.m.now c.mapping_law.ensures c.tell_well_formed.ensures c.tell_well_formed-2.ensures c.requires c.tell_numbers.ensures
    c.elaborate_named.result c.elaborate_named.ensures

pub returns-clause-from : goal.returns-clause-from
returns-clause-from c =
    is_from c.args.upper.now c.args.lower.now c.args.scopes.now c.args.m.now c.mapping_law.ensures c.tell_well_formed.ensures c.tell_well_formed-2.ensures c.requires c.tell_numbers.ensures
    c.elaborate_named.result c.elaborate_named.ensures
