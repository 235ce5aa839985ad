use Rattle.std.proofs.Common.{◌≡◌, take}
use Rattle.std.specs.Prelude.{map}
use Rattle.sp_instance.specs.Words.{is_enumeration}
use Rattle.sp_instance.proofs.vocabulary.enumerations.Given as goal

abbrev pub invariant-loop-info : goal.invariant-loop-info
invariant-loop-info l = l.flags.items ≡ map is_enumeration (take l.info-index l.types)
