use Rattle.std.proofs.Common.{◌≡◌, ◌+◌, ◌++◌, ◌∷◌, [], take, get_or, true, refl, sym, ap, ◌∙◌, subst}
use Rattle.std.proofs.lemmas.List.{take_all, take_more}
use Rattle.sp_rules.specs.Facts.{holds_in, is_one_of}
use Rattle.sp_rules.specs.Table.{in_range}
use Rattle.sp_rules.specs.declared.fact.Fact.TheVariants.{Eq}
use Rattle.sp_rules.proofs.FactLemmas.{is_one_of-none}
use Rattle.sp_checker.proofs.Rooms.{given_more, truth_in_range}
use Rattle.sp_checker.proofs.checker.give_all.Goals as goal

pub loop-fact-init : goal.loop-fact-init
loop-fact-init c = record { eq = refl; le = c.requires.same_count; holds = λ f. c.requires.none f ∙ sym (is_one_of-none f) }

pub add-requires-clause-fact : goal.add-requires-clause-fact
add-requires-clause-fact c =
    let facts = c.args.facts.now in
    let i = c.loop-fact.fact-index in
    let fact = get_or facts i (Eq 0 0) in
    subst (λ n. in_range n fact ≡ true) (sym c.loop-fact.invariant.eq) (truth_in_range c.args.eq.now.count fact c.requires.two (c.requires.facts i (Eq 0 0) c.loop-fact-test.true))

pub loop-fact-preserved : goal.loop-fact-preserved
loop-fact-preserved c =
    let i = c.loop-fact.invariant in
    let at = c.loop-fact.fact-index in
    let facts = c.args.facts.now in
    let fact = get_or facts at (Eq 0 0) in
    let more : take (at + 1) facts ≡ take at facts ++ fact ∷ [] = take_more facts at (Eq 0 0) c.loop-fact-test.true in
    record {
      eq = c.add.ensures.sizes.0 ∙ i.eq;
      le = c.add.ensures.sizes.1 ∙ i.le;
      holds = λ f. c.add.ensures.has f ∙ given_more (take at facts) fact f (holds_in c.loop-fact.eq c.loop-fact.le f) (i.holds f) ∙ ap (λ fs. is_one_of fs f) (sym more);
    }

pub returns-clause-holds : goal.returns-clause-holds
returns-clause-holds c = λ f.
    c.loop-fact.invariant.holds f ∙ ap (λ fs. is_one_of fs f) (take_all c.loop-fact.fact-index c.args.facts.now c.loop-fact-test.false)
