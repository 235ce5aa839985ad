use Rattle.std.proofs.Common.{◌≡◌, sym, subst}
use Rattle.std.specs.Prelude.{OnErr}
use Rattle.sp_sequent.proofs.Sequencing.{start_nodes}
use Rattle.sp_sequent.proofs.sequent.Sequent.build.Goals as goal

pub number-requires-clause-two : goal.number-requires-clause-two
number-requires-clause-two c = start_nodes c.args.pool.now c.len.ensures.pool c.requires.two

pub returns-clause-refused : goal.returns-clause-refused
returns-clause-refused c = subst (λ nodes. OnErr c.number.result (c.number.new.pool ≡ nodes)) (sym (start_nodes c.args.pool.now c.len.ensures.pool c.requires.two)) c.number.ensures.refused
