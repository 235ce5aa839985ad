use Rattle.std.proofs.Common.{◌≤◌, length}
use Rattle.sp_saturate.specs.Situations.{supposed}
use Rattle.sp_prover.specs.Deciding.{AreUndeterminedBelow}
use Rattle.sp_prover.proofs.exploring.undetermined.Given as goal

abbrev pub invariant-loop-atom : goal.invariant-loop-atom
invariant-loop-atom l = record {
  size : length l.places.items ≤ l.atom;
  undetermined : AreUndeterminedBelow l.facts.question.terms (supposed l.facts) l.facts.question.atoms l.atom l.places.items;
}
