use Rattle.std.proofs.Common.{◌∙◌, ap, arith, take}
use Rattle.sp_text.specs.Violations.{first}
use Rattle.sp_naming.proofs.Gathering.{number_after}
use Rattle.sp_specification.specs.Bodies.{assertions_broken}
use Rattle.sp_bodies.specs.Seen.{numbered_broken}
use Rattle.sp_bodies.proofs.Numbered.{assertions_next}
use Rattle.sp_bodies.proofs.assertions.judge_assertions.Goals as goal

pub loop-e-preserved : goal.loop-e-preserved
loop-e-preserved c =
    let s = c.args.scope.now in
    let a = c.args.first_number in
    let es = c.args.assertions.now in
    let i = c.loop-e.e-index in
    let e = c.e-item.result in
    let n = c.loop-e.number in
    record {
      found =
          c.earlier-found.ensures (assertions_broken s a (take i es)) (numbered_broken s n e) c.loop-e.invariant.found c.in_ok-judge_numbered.ensures
          ∙ ap first (assertions_next s a es i e n (omega arith) c.loop-e-test.true c.e-item.is c.loop-e.invariant.number);
      number = c.after-number.ensures ∙ number_after a i n (omega arith) c.loop-e.invariant.number;
    }
