use Rattle.sp_order.proofs.order.lattice_of_pairs.Goals as goal

pub returns-in-Err-clause-refused : goal.returns-in-Err-clause-refused
returns-in-Err-clause-refused c = c.refusal.ensures c.args.count c.args.pairs.now c.requires.some c.requires.few c.in-Err.ensures.refused
