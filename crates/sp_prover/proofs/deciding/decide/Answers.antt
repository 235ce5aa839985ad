use Rattle.std.proofs.Common.{◌≤◌, length, sym, ap, ◌∙◌, subst, arith}
use Rattle.std.specs.Prelude.{IfErr, IfOk}
use Rattle.sp_rules.specs.Questions.{Question}
use Rattle.sp_sequent.specs.Claims.{claim_of}
use Rattle.sp_sequent.specs.Sequents.{TermNumbers}
use Rattle.sp_prover.specs.Deciding.{Decides, HasTruths, IsRefused, LeavesFew}
use Rattle.sp_pool.proofs.NodeLaws.{two}
use Rattle.sp_sequent.specs.Claims.{terms_in}
use Rattle.sp_sequent.proofs.Sequencing.{released, start_nodes}
use Rattle.sp_prover.proofs.Formulas.{few_atoms, has_truths, question_is, told}
use Rattle.sp_prover.proofs.deciding.decide.Goals as goal

pub returns-in-Ok-clause-decides : goal.returns-in-Ok-clause-decides
returns-in-Ok-clause-decides c =
    let is = question_is c.args.spec.now (claim_of c.args.f.now) c.build.new.pool c.in-Ok.sequent c.in-Ok.ensures.pool c.in-Ok.ensures.numbers in
    subst (λ (q : Question). IfOk c.decide_sequent-found.result (λ e. Decides q e)) is c.decide_sequent-found.ensures.decides

pub returns-in-Ok-clause-few : goal.returns-in-Ok-clause-few
returns-in-Ok-clause-few c =
    let is = question_is c.args.spec.now (claim_of c.args.f.now) c.build.new.pool c.in-Ok.sequent c.in-Ok.ensures.pool c.in-Ok.ensures.numbers in
    subst (λ (q : Question). IfOk c.decide_sequent-found.result (λ e. LeavesFew q)) is c.decide_sequent-found.ensures.few

pub returns-in-Ok-clause-refused : goal.returns-in-Ok-clause-refused
returns-in-Ok-clause-refused c =
    let is = question_is c.args.spec.now (claim_of c.args.f.now) c.build.new.pool c.in-Ok.sequent c.in-Ok.ensures.pool c.in-Ok.ensures.numbers in
    subst (λ (q : Question). IfErr c.decide_sequent-found.result (λ f. IsRefused q f)) is c.decide_sequent-found.ensures.refused

pub returns-in-Ok-clause-holds : goal.returns-in-Ok-clause-holds
returns-in-Ok-clause-holds c =
    let is = question_is c.args.spec.now (claim_of c.args.f.now) c.build.new.pool c.in-Ok.sequent c.in-Ok.ensures.pool c.in-Ok.ensures.numbers in
    told c.args.spec.now (claim_of c.args.f.now) c.functions.ensures.well_formed c.requires.typed c.decide_sequent-found.result
    (subst (λ (q : Question). IfOk c.decide_sequent-found.result (λ e. Decides q e)) is c.decide_sequent-found.ensures.decides)

pub decide_sequent-found-requires-clause-truths : goal.decide_sequent-found-requires-clause-truths
decide_sequent-found-requires-clause-truths c =
    let is = question_is c.args.spec.now (claim_of c.args.f.now) c.build.new.pool c.in-Ok.sequent c.in-Ok.ensures.pool c.in-Ok.ensures.numbers in
    subst (λ (q : Question). HasTruths q.terms) (sym is) (has_truths c.args.spec.now (claim_of c.args.f.now))

pub decide_sequent-found-requires-clause-few : goal.decide_sequent-found-requires-clause-few
decide_sequent-found-requires-clause-few c =
    let claim = claim_of c.args.f.now in
    let few : length (terms_in claim) ≤ 512 = c.args.f.now.few_terms in
    omega (arith, ap (λ (s : TermNumbers). length s.atoms) c.in-Ok.ensures.numbers, few_atoms c.args.spec.now claim, few)

pub release-requires-clause-held : goal.release-requires-clause-held
release-requires-clause-held c = two c.len-in-Ok.ensures.pool

pub returns-in-Ok-clause-pool : goal.returns-in-Ok-clause-pool
returns-in-Ok-clause-pool c =
    released _ c.release.new.self c.len-in-Ok.ensures.pool c.release.ensures.nodes ∙ sym (start_nodes c.args.pool.now c.len.ensures.pool c.requires.two)
