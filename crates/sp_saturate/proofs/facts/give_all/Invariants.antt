use Rattle.std.proofs.Common.{◌≡◌, ◌||◌, take}
use Rattle.sp_rules.specs.Facts.{is_one_of}
use Rattle.sp_rules.specs.declared.fact.Fact.{Fact}
use Rattle.sp_saturate.specs.Steps.{on, given_on}
use Rattle.sp_saturate.proofs.facts.give_all.Given as goal

abbrev pub invariant-loop-fact : goal.invariant-loop-fact
invariant-loop-fact l = record {
  terms : l.trail.terms ≡ l.initial.trail.terms;
  on_facts : (f : Fact) → on l.trail.steps f ≡ (on l.initial.trail.steps f || is_one_of (take l.fact-index l.facts) f);
  only_given : (f : Fact) → given_on l.trail.steps f ≡ on l.trail.steps f;
}
