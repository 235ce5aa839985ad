use Rattle.std.proofs.Common.{◌≡◌, ◌++◌, take}
use Rattle.std.specs.List.{flat_map}
use Rattle.sp_instance.specs.Words.{designator_name}
use Rattle.sp_instance.proofs.spec_names.push_designators.Given as goal

abbrev pub invariant-loop-info : goal.invariant-loop-info
invariant-loop-info l = l.names.items ≡ l.initial.names.items ++ flat_map designator_name (take l.info-index l.types)
