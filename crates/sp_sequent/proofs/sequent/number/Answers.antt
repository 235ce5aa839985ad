use Rattle.sp_pool.proofs.NodeLaws.{two}
use Rattle.sp_sequent.proofs.Sequencing.{released}
use Rattle.sp_sequent.proofs.sequent.number.Goals as goal

pub release-requires-clause-held : goal.release-requires-clause-held
release-requires-clause-held c = two c.len.ensures.pool

pub returns-in-Err-Memory-clause-refused : goal.returns-in-Err-Memory-clause-refused
returns-in-Err-Memory-clause-refused c = released _ c.release.new.self c.len.ensures.pool c.release.ensures.nodes
