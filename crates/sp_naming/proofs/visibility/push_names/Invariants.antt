use Rattle.std.proofs.Common.{◌≡◌, ◌++◌, take}
use Rattle.std.specs.List.{flat_map}
use Rattle.sp_naming.specs.Visibility.{name_taken}
use Rattle.sp_naming.proofs.visibility.push_names.Given as goal

abbrev pub invariant-loop-name : goal.invariant-loop-name
invariant-loop-name l = l.all.items ≡ l.initial.all.items ++ flat_map (name_taken l.declared l.file) (take l.name-index l.names)
