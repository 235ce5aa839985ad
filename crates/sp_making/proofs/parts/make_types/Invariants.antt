use Rattle.std.proofs.Common.{◌≡◌, take, map}
use Rattle.sp_specification.specs.Meaning.{type_info}
use Rattle.sp_making.proofs.parts.make_types.Given as goal

abbrev pub invariant-loop-declared : goal.invariant-loop-declared
invariant-loop-declared l = l.all.items ≡ map type_info (take l.declared-index l.types)
