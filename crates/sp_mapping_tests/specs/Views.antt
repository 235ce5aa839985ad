-- The arguments of a row of a mapping, for the tests of views.
use Rattle.std.specs.Prelude.{IsTrue, List}
use Rattle.sp_values.specs.declared.value.Value.{Value}
use Rattle.sp_values.specs.Domains.{are_values}
use Rattle.sp_core.specs.declared.mapping.MapRow.{MapRow}
use Rattle.sp_core.specs.Instances.{InstanceParts, filling_of, sizes_of}
use Rattle.sp_core.specs.Machine.{types_of}
use Rattle.sp_core.specs.Parts.{Parts}

-- values of the types of the row's formals, one for each
abbrev pub AreOf : Parts → InstanceParts → MapRow → List Value → Type 0
AreOf p i r vs = IsTrue (are_values (sizes_of p (filling_of i)) (types_of r.formals) vs)
