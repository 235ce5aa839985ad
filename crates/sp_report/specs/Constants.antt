-- The texts of names, types and constants of a specification. Where a number has no name, nothing stands for it.
use Rattle.std.specs.Prelude.{ℕ, Bool, true, false, List, [], Option, Some, None, codes, slice_get}
use Rattle.std.specs.Fmt.{signed_decimal}
use Rattle.sp_values.specs.declared.value.Ty.{Ty}
use Rattle.sp_values.specs.declared.value.Ty.TheVariants as ty
use Rattle.sp_values.specs.declared.value.Value.{Value}
use Rattle.sp_values.specs.declared.value.Value.TheVariants as value
use Rattle.sp_core.specs.declared.function.Function.{Function}
use Rattle.sp_core.specs.declared.function.Param.{Param}
use Rattle.sp_core.specs.declared.function.TypeInfo.{TypeInfo}
use Rattle.sp_core.specs.Parts.{Parts}

abbrev pub name_or_nothing : Option (List ℕ) → List ℕ
name_or_nothing None = []
name_or_nothing (Some name) = name

-- the k-th of these names
abbrev pub nth_name : List (List ℕ) → ℕ → List ℕ
nth_name names k = name_or_nothing (slice_get names k)

abbrev pub name_of_type : Option TypeInfo → List ℕ
name_of_type None = []
name_of_type (Some info) = info.name

abbrev pub name_of_param : Option Param → List ℕ
name_of_param None = []
name_of_param (Some q) = q.name

abbrev pub name_of_function : Option Function → List ℕ
name_of_function None = []
name_of_function (Some f) = f.name

-- the name of the k-th member, where there are members
abbrev pub nth_member : Option (List (List ℕ)) → ℕ → List ℕ
nth_member None k = []
nth_member (Some names) k = nth_name names k

-- the name of the k-th member of an enumeration; a designator type declares none
abbrev pub name_of_member : Option TypeInfo → ℕ → List ℕ
name_of_member None k = []
name_of_member (Some info) k = nth_member info.members k

abbrev pub truth_text : Bool → List ℕ
truth_text true = codes "TRUE"
truth_text false = codes "FALSE"

abbrev pub type_text : Parts → Ty → List ℕ
type_text p ty.Boolean = codes "BOOLEAN"
type_text p ty.Integer = codes "INTEGER"
type_text p ty.Level = codes "LEVEL"
type_text p (ty.Member k) = name_of_type (slice_get p.types k)

-- a constant of an expression: levels and members by name, integers in decimal
abbrev pub constant_text : Parts → Value → List ℕ
constant_text p (value.Truth b) = truth_text b
constant_text p (value.Int n) = signed_decimal n
constant_text p (value.Level l) = nth_name p.level_names l
constant_text p (value.Member k m) = name_of_member (slice_get p.types k) m
constant_text p value.Unknown = codes "?"
