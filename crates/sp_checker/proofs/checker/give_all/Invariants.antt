use Rattle.std.proofs.Common.{◌≡◌, take}
use Rattle.sp_rules.specs.Facts.{holds_in, is_one_of}
use Rattle.sp_rules.specs.declared.fact.Fact.{Fact}
use Rattle.sp_checker.proofs.checker.give_all.Given as goal

abbrev pub invariant-loop-fact : goal.invariant-loop-fact
invariant-loop-fact l = record {
  eq : l.eq.count ≡ l.initial.eq.count;
  le : l.le.count ≡ l.initial.eq.count;
  holds : (f : Fact) → holds_in l.eq l.le f ≡ is_one_of (take l.fact-index l.facts) f;
}
