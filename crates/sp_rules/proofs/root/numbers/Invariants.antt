use Rattle.std.proofs.Common.{◌≡◌, take}
use Rattle.sp_rules.specs.Questions.{numbers}
use Rattle.sp_rules.proofs.root.numbers.Given as goal

abbrev pub invariant-loop-term : goal.invariant-loop-term
invariant-loop-term l = l.numbers.items ≡ numbers (take l.term-index l.terms)
