use Rattle.std.proofs.Common.{◌≡◌, ◌||◌, ◌+◌, ◌++◌, ◌∷◌, [], take, get_or, refl, sym, ap, ◌∙◌, arith}
use Rattle.std.proofs.lemmas.List.{take_more}
use Rattle.sp_rules.specs.Facts.{is_one_of}
use Rattle.sp_rules.specs.declared.fact.Fact.TheVariants.{Eq}
use Rattle.sp_rules.proofs.FactLemmas.{is_one_of-none, or_false}
use Rattle.sp_saturate.specs.Steps.{on, given_on}
use Rattle.sp_saturate.specs.Trail.{Found}
use Rattle.sp_saturate.proofs.Levels.{given_more, only_given}
use Rattle.sp_saturate.proofs.facts.give_all.Goals as goal

pub loop-fact-init : goal.loop-fact-init
loop-fact-init c = record {
  terms = refl;
  on_facts = λ f. sym (ap (λ b. on c.args.trail.now.steps f || b) (is_one_of-none f) ∙ or_false (on c.args.trail.now.steps f));
  only_given = c.requires.given;
}

pub loop-fact-preserved : goal.loop-fact-preserved
loop-fact-preserved c =
    let i = c.loop-fact.invariant in
    let facts = take c.loop-fact.fact-index c.args.facts.now in
    let fact = get_or c.args.facts.now c.loop-fact.fact-index (Eq 0 0) in
    let more : take (c.loop-fact.fact-index + 1) c.args.facts.now ≡ facts ++ fact ∷ [] = take_more c.args.facts.now c.loop-fact.fact-index (Eq 0 0) (omega arith) in
    record {
      terms = ap (λ (t : Found). t.terms) c.give.ensures ∙ i.terms;
      on_facts = λ f. ap (λ (t : Found). on t.steps f) c.give.ensures ∙ given_more (on c.args.trail.now.steps f) facts c.loop-fact.trail.steps fact f (i.on_facts f)
          ∙ ap (λ fs. on c.args.trail.now.steps f || is_one_of fs f) (sym more);
      only_given = λ f. ap (λ (t : Found). given_on t.steps f) c.give.ensures ∙ only_given c.loop-fact.trail.steps fact i.only_given f
          ∙ sym (ap (λ (t : Found). on t.steps f) c.give.ensures);
    }
