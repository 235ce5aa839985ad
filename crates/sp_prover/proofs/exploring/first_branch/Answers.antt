use Rattle.sp_prover.specs.Deciding.{values_of}
use Rattle.sp_prover.proofs.Firsts.{first_all}
use Rattle.sp_prover.proofs.exploring.first_branch.Goals as goal

pub returns : goal.returns
returns c =
    let r = c.requires in
    record {
      as_many = c.in_ok-values.ensures.size;
      first = first_all c.args.facts.now (values_of (record { values = c.in_ok-values.values })) r.truths r.question r.clash r.settled c.in_ok-values.ensures.truths;
    }
