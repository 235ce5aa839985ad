use Rattle.std.proofs.Common.{◌≡◌, take}
use Rattle.std.specs.Prelude.{map}
use Rattle.sp_instance.proofs.vocabulary.listed.Given as goal

abbrev pub invariant-loop-names : goal.invariant-loop-names
invariant-loop-names l = l.lists.items ≡ map (λ names. names.items) (take l.names-index l.members)
