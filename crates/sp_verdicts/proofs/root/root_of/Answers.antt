use Rattle.std.proofs.Common.{◌≡◌, length, sym, ap, ◌∙◌}
use Rattle.std.proofs.lemmas.List.{length-take-le}
use Rattle.sp_pool.proofs.NodeLaws.{two}
use Rattle.sp_sequent.proofs.Sequencing.{start_nodes}
use Rattle.sp_verdicts.proofs.root.root_of.Goals as goal

pub release-requires-clause-held : goal.release-requires-clause-held
release-requires-clause-held c = two c.len-2.ensures.pool

pub returns-clause-pool : goal.returns-clause-pool
returns-clause-pool c =
    let short : length c.release.new.self ≡ 2 = ap length c.release.ensures.nodes ∙ length-take-le 2 _ (two c.len-2.ensures.pool) in
    start_nodes c.release.new.self c.release.ensures.pool short ∙ sym (start_nodes c.args.pool.now c.len.ensures.pool c.requires.two)
