use Rattle.std.proofs.Common.{◌≡◌, true, map, take}
use Rattle.sp_rules.specs.Facts.{has_truth}
use Rattle.sp_rules.specs.Questions.{numbers}
use Rattle.sp_rules.proofs.root.given_facts.Given as goal

abbrev pub invariant-loop-hypothesis : goal.invariant-loop-hypothesis
invariant-loop-hypothesis l = l.given.items ≡ map (λ h. has_truth h true) (numbers (take l.hypothesis-index l.hypotheses))
