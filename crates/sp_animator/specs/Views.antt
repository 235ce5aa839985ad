-- What a lower machine lets see of an upper one through a mapping: for an upper place the value of the mapping's row, at the
-- place's values with their types translated. For the view and for what a mapping promises.
use Rattle.std.specs.Prelude.{◌≡◌, ℕ, IsTrue, List, Option, Some, None, map, slice_get}
use Rattle.sp_values.specs.declared.place.Place.{Place}
use Rattle.sp_values.specs.declared.value.Value.{Value}
use Rattle.sp_values.specs.declared.value.Value.TheVariants as value
use Rattle.sp_values.specs.Domains.{are_values}
use Rattle.sp_core.specs.declared.mapping.Mapping.{Mapping}
use Rattle.sp_core.specs.declared.mapping.MapRow.{MapRow}
use Rattle.sp_core.specs.Instances.{InstanceParts, filling_of, sizes_of}
use Rattle.sp_core.specs.Machine.{Machine, types_of, value_at}
use Rattle.sp_core.specs.Parts.{Parts}
use Rattle.sp_core.specs.Tree.{tree}
use Rattle.sp_core.specs.Values.{Store}

-- the value, where a member of an upper type is the member of the same number of the lower type
abbrev pub translated : List ℕ → Value → Value
translated types (value.Member k n) = by (slice_get types k)
  where
    by : Option ℕ → Value
    by None = value.Unknown
    by (Some j) = value.Member j n
translated types v = v

-- the row of an upper place in a mapping, and that the place's values, translated, are of its formals' types
pub record IsRowOf (p : Parts) (i : InstanceParts) (m : Mapping) (place : Place) (k : ℕ) (r : MapRow) : Type 0 where
  pub there : slice_get m.functions k ≡ Some r
  pub upper : r.upper ≡ place.fun
  pub arguments : IsTrue (are_values (sizes_of p (filling_of i)) (types_of r.formals) (map (translated m.types) place.args))

-- the place is of an upper function that has a row
abbrev pub IsMapped : Parts → InstanceParts → Mapping → Place → Type 0
IsMapped p i m place = (k : ℕ) × (r : MapRow) × IsRowOf p i m place k r

-- the value that a lower state gives the upper place: that of its row
pub record IsViewBy (m : Machine) (s : Store) (mapping : Mapping) (place : Place) (v : Value) (k : ℕ) (r : MapRow) : Type 0 where
  pub there : slice_get mapping.functions k ≡ Some r
  pub upper : r.upper ≡ place.fun
  pub value : v ≡ value_at m s (map (translated mapping.types) place.args) (tree r.value)

abbrev pub IsView : Machine → Store → Mapping → Place → Value → Type 0
IsView m s mapping place v = (k : ℕ) × (r : MapRow) × IsViewBy m s mapping place v k r
