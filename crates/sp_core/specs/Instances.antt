-- An instance of a specification: what sizes its types have and what tables its parameters, when it is admissible, and
-- the machine that it makes.
use Rattle.std.specs.Prelude.{◌≡◌, ℕ, ◌≤◌, IsTrue, List, [], ◌∷◌, length, map, Option, Some, None, slice_get, slice_index_or, if◌then◌else◌}
use Rattle.std.specs.List.{All}
use Rattle.sp_text.specs.declared.limits.TheConstants.{MOST_POPULATION}
use Rattle.sp_values.specs.declared.value.Value.{Value}
use Rattle.sp_values.specs.declared.value.Value.TheVariants as value
use Rattle.sp_values.specs.Domains.{Sizes, are_values, is_value}
use Rattle.sp_values.specs.Identity.{same_values}
use Rattle.sp_lattice.specs.Order.{is_below, join, meet}
use Rattle.sp_core.specs.declared.function.Assertion.{Assertion}
use Rattle.sp_core.specs.declared.function.Param.{Param}
use Rattle.sp_core.specs.declared.function.TypeInfo.{TypeInfo}
use Rattle.sp_core.specs.Machine.{AreBindings, Machine, types_of}
use Rattle.sp_core.specs.Parts.{Parts}
use Rattle.sp_core.specs.Security.{IsSecureMachine}
use Rattle.sp_core.specs.Tree.{tree}
use Rattle.sp_core.specs.Values.{World, is_true, nothing, value_of}
use Rattle.sp_core.specs.WellFormed.{AreDifferent}

-- what a contract sees of a parameter's table: the arguments and the value of each row, and the value at all other arguments
pub record TableParts : Type 0 where
  pub rows : List (List Value × Value)
  pub other : Value

-- the size of each declared type, any whole number, and a table for each parameter
pub record Filling : Type 0 where
  pub sizes : List ℕ
  pub tables : List TableParts

-- what a contract sees of an instance in memory: the names of each type's members, and the tables
pub record InstanceParts : Type 0 where
  pub members : List (List (List ℕ))
  pub tables : List TableParts

-- the sizes and tables of an instance in memory
abbrev pub filling_of : InstanceParts → Filling
filling_of i = record { sizes = map (λ names. length names) i.members; tables = i.tables }

-- the value that the rows give at a list of values; the other value where none does
abbrev pub row_value : List (List Value × Value) → Value → List Value → Value
row_value [] other v = other
row_value (r ∷ rs) other v = if same_values r.0 v then r.1 else row_value rs other v

-- a parameter's value
abbrev pub table_value : Option TableParts → List Value → Value
table_value None v = value.Unknown
table_value (Some t) v = row_value t.rows t.other v

-- how many levels there are, and how many members each type has
abbrev pub sizes_of : Parts → Filling → Sizes
sizes_of p i = record { levels = p.lattice.count; members = λ k. slice_index_or i.sizes k 0 }

-- the lattice and the instance
abbrev pub world_of : Parts → Filling → World
world_of p i = record {
  below = is_below p.lattice;
  join = join p.lattice;
  meet = meet p.lattice;
  param = λ n v. table_value (slice_get i.tables n) v;
  sizes = sizes_of p i;
}

-- the machine of a specification with an instance
abbrev pub machine_of : Parts → Filling → Machine
machine_of p i = record { world = world_of p i; functions = p.functions }

-- a parameter's table: rows with different lists of values of the formals' types, and values of the parameter's type
pub record IsTable (sizes : Sizes) (q : Param) (t : TableParts) : Type 0 where
  pub arguments : All (λ r. IsTrue (are_values sizes (types_of q.formals) r.0)) t.rows
  pub values : All (λ r. IsTrue (is_value sizes q.ty r.1)) t.rows
  pub other : IsTrue (is_value sizes q.ty t.other)
  pub different : (i j : ℕ) (a b : List Value × Value) → slice_get t.rows i ≡ Some a → slice_get t.rows j ≡ Some b → a.0 ≡ b.0 → i ≡ j

-- an instance of the specification: a size for each type, that of an enumeration being its number of members, and a table
-- for each parameter
pub record IsInstance (p : Parts) (i : Filling) : Type 0 where
  pub sizes : length i.sizes ≡ length p.types
  pub enumerations : (k : ℕ) (info : TypeInfo) (names : List (List ℕ)) → slice_get p.types k ≡ Some info → info.members ≡ Some names → slice_get i.sizes k ≡ Some (length names)
  pub tables : length i.tables ≡ length p.params
  pub each : (n : ℕ) (q : Param) (t : TableParts) → slice_get p.params n ≡ Some q → slice_get i.tables n ≡ Some t → IsTable (sizes_of p i) q t

-- an instance in memory: at most 64 different names for each type, an enumeration's being those of its members
pub record IsInstanceOf (p : Parts) (i : InstanceParts) : Type 0 where
  pub few : All (λ names. length names ≤ MOST_POPULATION) i.members
  pub different : All AreDifferent i.members
  pub members : (k : ℕ) (info : TypeInfo) (names : List (List ℕ)) → slice_get p.types k ≡ Some info → info.members ≡ Some names → slice_get i.members k ≡ Some names
  pub instance : IsInstance p (filling_of i)

-- the assertion's body is TRUE for all proper values of its variables
abbrev pub IsAsserted : World → Assertion → Type 0
IsAsserted w a = (cs : List Value) → AreBindings w (types_of a.vars) cs → IsTrue (is_true (value_of w nothing nothing cs (tree a.body)))

-- each assertion is TRUE
abbrev pub IsAdmissible : Parts → Filling → Type 0
IsAdmissible p i = All (IsAsserted (world_of p i)) p.assertions

-- a specification is secure: its machine is, in every admissible instance
abbrev pub IsSecure : Parts → Type 0
IsSecure p = (i : Filling) → IsInstance p i → IsAdmissible p i → IsSecureMachine (machine_of p i)
