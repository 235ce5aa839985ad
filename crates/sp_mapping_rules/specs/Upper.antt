-- When a mapping to a lower specification is one from an upper specification.
use Rattle.std.specs.Prelude.{◌≡◌, ℕ, IsTrue, List, length, map, Some, slice_get, slice_index_or}
use Rattle.std.specs.List.{All}
use Rattle.sp_values.specs.declared.value.Ty.{Ty}
use Rattle.sp_core.specs.declared.function.Function.{Function}
use Rattle.sp_core.specs.declared.function.TypeInfo.{TypeInfo}
use Rattle.sp_core.specs.declared.mapping.MapRow.{MapRow}
use Rattle.sp_core.specs.declared.mapping.Mapping.{Mapping}
use Rattle.sp_core.specs.Machine.{types_of}
use Rattle.sp_core.specs.Parts.{Parts, signature}
use Rattle.sp_core.specs.Tree.{tree}
use Rattle.sp_core.specs.Typing.{HasType, primitive_type}
use Rattle.sp_mapping_rules.specs.Levels.{type_over}
use Rattle.sp_mapping_rules.specs.Types.{same_sort}

-- declared type k has a lower type of the same sort, of as many members where it is an enumeration
pub record HasLowerType (p : Parts) (m : Mapping) (k : ℕ) (a : TypeInfo) : Type 0 where
  pub lower : TypeInfo
  pub there : slice_get p.types (slice_index_or m.types k 0) ≡ Some lower
  pub sort : IsTrue (same_sort a lower)

-- a row of function number g
pub record HasRow (m : Mapping) (g : ℕ) : Type 0 where
  pub place : ℕ
  pub row : MapRow
  pub there : slice_get m.functions place ≡ Some row
  pub upper : row.upper ≡ g

-- the row is of a primitive V-function; its formals have the types of the function's, and its value has the function's, translated
pub record IsRowFrom (u p : Parts) (ts : List ℕ) (r : MapRow) : Type 0 where
  pub function : Function
  pub type : Ty
  pub there : slice_get u.functions r.upper ≡ Some function
  pub primitive : primitive_type function.kind ≡ Some type
  pub formals : types_of r.formals ≡ map (type_over ts) (types_of function.formals)
  pub value : HasType (signature p) (types_of r.formals) (tree r.value) (type_over ts type)

-- A mapping from the upper specification u to the lower one, p: the two have one lattice, each declared type of u has a lower one, and
-- each primitive V-function has a row. That no two rows are of one function is a matter of the lower side.
pub record IsMappingFrom (u p : Parts) (m : Mapping) : Type 0 where
  pub level_names : u.level_names ≡ p.level_names
  pub lattice : u.lattice ≡ p.lattice
  pub count : length m.types ≡ length u.types
  pub types : (k : ℕ) (a : TypeInfo) → slice_get u.types k ≡ Some a → HasLowerType p m k a
  pub complete : (g : ℕ) (f : Function) (t : Ty) → slice_get u.functions g ≡ Some f → primitive_type f.kind ≡ Some t → HasRow m g
  pub rows : All (IsRowFrom u p m.types) m.functions
