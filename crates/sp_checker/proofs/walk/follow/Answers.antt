use Rattle.std.proofs.Common.{◌≡◌, ◌+◌, drop, get_or, Option, Some, sym, ap, ◌∙◌, subst, arith}
use Rattle.std.proofs.lemmas.List.{drop_all}
use Rattle.sp_rules.specs.declared.fact.Step.{Step}
use Rattle.sp_rules.specs.declared.fact.Fact.TheVariants.{Eq}
use Rattle.sp_rules.specs.Facts.{holds_in}
use Rattle.sp_rules.specs.Terms.{count as term_count}
use Rattle.sp_checker.proofs.Following.{within_from_lack}
use Rattle.sp_cert.specs.declared.cert.CertFault.{CertFault}
use Rattle.sp_cert.specs.declared.cert.CertFault.TheVariants.{BadStep}
use Rattle.sp_cert.specs.Checks.{bad_step, count_steps, ends_in_clash, with_steps}
use Rattle.sp_checker.specs.Known.{judge}
use Rattle.sp_checker.specs.Trail.{EachWithin}
use Rattle.sp_checker.proofs.Following.{bad_after, bad_here, count_after, clash_after, holds_after}
use Rattle.sp_checker.proofs.walk.follow.Goals as goal

abbrev blank : Step
blank = record { fact = Eq 0 0; rule = 0; p = 0; q = 0 }

pub returns-in-Some-clause-fault : goal.returns-in-Some-clause-fault
returns-in-Some-clause-fault c = λ atoms.
    let j = judge c.args.terms.now atoms in
    sym (c.loop-step.invariant.fault atoms
    ∙ bad_here c.args.steps.now c.loop-step.step-index blank c.loop-step-test.true j (holds_in c.loop-step.eq c.loop-step.le) c.loop-step.count c.in-Some.lack (sym c.lack.ensures ∙ c.in-Some.is)
    ∙ ap (λ n. let o : Option CertFault = Some (BadStep n c.in-Some.lack) in o) (sym c.next_number-count.ensures))

pub put-len-requires-clause-fact : goal.put-len-requires-clause-fact
put-len-requires-clause-fact c =
    let s : Step = get_or c.args.steps.now c.loop-step.step-index blank in
    rw (c.loop-step.invariant.eq, c.requires.eq) (within_from_lack c.args.terms.now (holds_in c.loop-step.eq c.loop-step.le) s (sym c.lack.ensures ∙ c.in_default.is))

pub loop-step-preserved : goal.loop-step-preserved
loop-step-preserved c =
    let ss = c.args.steps.now in
    let i = c.loop-step.step-index in
    let below = c.loop-step-test.true in
    let h = holds_in c.loop-step.eq c.loop-step.le in
    let h' = holds_in c.put-len.new.eq c.put-len.new.le in
    let count : c.loop-step.eq.count ≡ term_count c.args.terms.now = c.loop-step.invariant.eq ∙ c.requires.eq in
    record {
      eq = omega arith;
      le = omega arith;
      room = c.put-len.ensures.room;
      longer = omega (arith, c.loop-step.invariant.longer, c.put-len.ensures.longer);
      trailed = λ h0 base t. c.put-len.ensures.trailed h0 base (c.loop-step.invariant.trailed h0 base t);
      within = subst (λ n. EachWithin n c.put-len.new.trail c.put-len.result) count (c.put-len.ensures.within (subst (λ n. EachWithin n c.loop-step.trail c.loop-step.len) (sym count) c.loop-step.invariant.within));
      kept = λ k l. c.put-len.ensures.kept k (omega (arith, l, c.loop-step.invariant.longer)) ∙ c.loop-step.invariant.kept k l;
      fault = λ atoms.
          let j = judge c.args.terms.now atoms in
          c.loop-step.invariant.fault atoms ∙ bad_after ss i blank below j h h' c.loop-step.count (sym c.lack.ensures ∙ c.in_default.is) c.put-len.ensures.has
          ∙ ap (λ n. bad_step j h' n (drop (i + 1) ss)) (sym c.next_number-count.ensures);
      counted = c.loop-step.invariant.counted ∙ count_after ss i blank below c.loop-step.count ∙ ap (λ n. count_steps n (drop (i + 1) ss)) (sym c.next_number-count.ensures);
      clash = λ atoms.
          let j = judge c.args.terms.now atoms in
          c.loop-step.invariant.clash atoms ∙ clash_after ss i blank below j c.loop-step.last ∙ ap (λ b. ends_in_clash j b (drop (i + 1) ss)) (sym c.clashes-last.ensures);
      holds = λ f. c.loop-step.invariant.holds f ∙ holds_after ss i blank below h h' c.put-len.ensures.has f;
    }

pub returns-clause-fault : goal.returns-clause-fault
returns-clause-fault c = λ atoms.
    sym (c.loop-step.invariant.fault atoms ∙ ap (bad_step (judge c.args.terms.now atoms) (holds_in c.loop-step.eq c.loop-step.le) c.loop-step.count) (drop_all c.loop-step.step-index c.args.steps.now c.loop-step-test.false))

pub returns-clause-clash : goal.returns-clause-clash
returns-clause-clash c = λ atoms e.
    sym (c.loop-step.invariant.clash atoms ∙ ap (ends_in_clash (judge c.args.terms.now atoms) c.loop-step.last) (drop_all c.loop-step.step-index c.args.steps.now c.loop-step-test.false))

pub returns-clause-holds : goal.returns-clause-holds
returns-clause-holds c = λ e f.
    sym (c.loop-step.invariant.holds f ∙ ap (λ l. with_steps l (holds_in c.loop-step.eq c.loop-step.le) f) (drop_all c.loop-step.step-index c.args.steps.now c.loop-step-test.false))
