-- What evaluation asks of what it is given, for its callers: a state of the instance's machine, and expressions, V-functions
-- and environments that are well typed over it.
use Rattle.std.specs.Prelude.{◌≡◌, ℕ, ◌+◌, ◌≤◌, IsTrue, List, length, slice_get, Some}
use Rattle.sp_values.specs.declared.value.Ty.{Ty}
use Rattle.sp_values.specs.declared.value.Value.{Value}
use Rattle.sp_values.specs.Domains.{are_values, is_value}
use Rattle.sp_core.specs.declared.function.Function.{Function}
use Rattle.sp_core.specs.declared.state.Entry.{Entry}
use Rattle.sp_core.specs.Instances.{InstanceParts, IsInstanceOf, filling_of, machine_of, sizes_of}
use Rattle.sp_core.specs.Machine.{IsState, types_of}
use Rattle.sp_core.specs.Measures.{Anything, LooksAt, Nothing, quantifiers}
use Rattle.sp_core.specs.Parts.{Parts, signature}
use Rattle.sp_core.specs.States.{entry_of}
use Rattle.sp_core.specs.Tree.{Tree}
use Rattle.sp_core.specs.Typing.{HasType, read_type}

-- the instance is one of the specification, and the entries are a state of their machine
pub record IsGiven (p : Parts) (i : InstanceParts) (entries : List Entry) : Type 0 where
  pub instance : IsInstanceOf p i
  pub state : IsState (machine_of p (filling_of i)) (entry_of entries)

-- the values are those of the instance, of the types xs, and the expression has type t over these; the values and the
-- quantifiers in one another are at most sixteen together
pub record IsTypedInAs (p : Parts) (i : InstanceParts) (x : List Value) (e : Tree) (xs : List Ty) (t : Ty) : Type 0 where
  pub values : IsTrue (are_values (sizes_of p (filling_of i)) xs x)
  pub typed : HasType (signature p) xs e t
  pub room : length x + quantifiers e ≤ 16

-- the expression has a type in the environment
abbrev pub IsTypedIn : Parts → InstanceParts → List Value → Tree → Type 0
IsTypedIn p i x e = (xs : List Ty) × (t : Ty) × IsTypedInAs p i x e xs t

-- no new value is read
abbrev pub HasNoNew : Tree → Type 0
HasNoNew e = LooksAt Anything Nothing e

-- the value has each type that the expression has in the environment
abbrev pub HasItsType : Parts → InstanceParts → List Value → Tree → Value → Type 0
HasItsType p i x e v = (xs : List Ty) (t : Ty) → IsTypedInAs p i x e xs t → IsTrue (is_value (sizes_of p (filling_of i)) t v)

-- function g is a V-function of type t, primitive or derived, and v are values of its formals' types
pub record IsReadOf (p : Parts) (i : InstanceParts) (g : ℕ) (v : List Value) (f : Function) (t : Ty) : Type 0 where
  pub function : slice_get p.functions g ≡ Some f
  pub type : read_type f.kind ≡ Some t
  pub arguments : IsTrue (are_values (sizes_of p (filling_of i)) (types_of f.formals) v)

-- a V-function with values of its formals' types
abbrev pub IsRead : Parts → InstanceParts → ℕ → List Value → Type 0
IsRead p i g v = (f : Function) × (t : Ty) × IsReadOf p i g v f t

-- the value is of the V-function's type
abbrev pub HasTypeOfRead : Parts → InstanceParts → ℕ → List Value → Value → Type 0
HasTypeOfRead p i g v x = (f : Function) (t : Ty) → IsReadOf p i g v f t → IsTrue (is_value (sizes_of p (filling_of i)) t x)
