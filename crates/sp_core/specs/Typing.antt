-- Which expressions are well typed, over the types of the variables around them, for well-formed specifications and for
-- whoever evaluates an expression.
use Rattle.std.specs.Prelude.{◌≡◌, ℕ, Bool, true, false, ◌&&◌, ◌==◌, nat_lt, IsTrue, List, [], ◌∷◌, ◌++◌, length, Option, Some, None, slice_get}
use Rattle.sp_values.specs.declared.value.Value.{Value}
use Rattle.sp_values.specs.declared.value.Value.TheVariants as value
use Rattle.sp_values.specs.declared.value.Ty.{Ty}
use Rattle.sp_values.specs.declared.value.Ty.TheVariants as ty
use Rattle.sp_values.specs.declared.value.Op.{Op}
use Rattle.sp_values.specs.declared.value.Op.TheVariants as op
use Rattle.sp_values.specs.Arithmetic.{in_range}
use Rattle.sp_core.specs.declared.function.Function.{Function}
use Rattle.sp_core.specs.declared.function.Kind.{Kind}
use Rattle.sp_core.specs.declared.function.Kind.TheVariants as kind
use Rattle.sp_core.specs.declared.function.Param.{Param as Parameter}
use Rattle.sp_core.specs.declared.function.TypeInfo.{TypeInfo}
use Rattle.sp_core.specs.Machine.{types_of}
use Rattle.sp_core.specs.Tree.{Tree, Trees, Const, Var, Not, Two, If, Param, Look, Every, New, none, more}

-- what an expression may name, by number: levels, declared types, parameters and functions
pub record Signature : Type 0 where
  pub levels : ℕ
  pub types : List TypeInfo
  pub params : List Parameter
  pub functions : List Function

-- whether it is a type of the signature
abbrev pub is_type : Signature → Ty → Bool
is_type sg (ty.Member k) = nat_lt k (length sg.types)
is_type sg t = true

-- whether a quantifier may range over it: any type but INTEGER
abbrev pub is_finite : Signature → Ty → Bool
is_finite sg ty.Integer = false
is_finite sg t = is_type sg t

-- how many members an enumeration declares; a designator type declares none
abbrev pub declared_members : Option TypeInfo → ℕ
declared_members None = 0
declared_members (Some info) = by info.members
  where
    by : Option (List (List ℕ)) → ℕ
    by None = 0
    by (Some names) = length names

-- whether it is a constant of the type: `?` where the type has it, or a proper value that the signature declares
abbrev pub is_constant : Signature → Ty → Value → Bool
is_constant sg ty.Boolean (value.Truth b) = true
is_constant sg ty.Integer (value.Int n) = in_range n
is_constant sg ty.Integer value.Unknown = true
is_constant sg ty.Level (value.Level l) = nat_lt l sg.levels
is_constant sg (ty.Member k) (value.Member j m) = (j == k) && nat_lt m (declared_members (slice_get sg.types k))
is_constant sg (ty.Member k) value.Unknown = nat_lt k (length sg.types)
is_constant sg t v = false

-- the type of a V-function; the others have none
abbrev pub read_type : Kind → Option Ty
read_type (kind.Primitive t e) = Some t
read_type (kind.Derived t e) = Some t
read_type k = None

-- the type of a primitive V-function; the others have none
abbrev pub primitive_type : Kind → Option Ty
primitive_type (kind.Primitive t e) = Some t
primitive_type k = None

-- the type of the values that a function answers: a V-function's or an OV-function's own; an O-function has none
abbrev pub answer_type : Kind → Option Ty
answer_type (kind.Primitive t e) = Some t
answer_type (kind.Derived t e) = Some t
answer_type (kind.Operation es) = None
answer_type (kind.Both t es) = Some t

-- two parts of type u make an operator's whole of type t
abbrev pub MakesType : Op → Ty → Ty → Type 0
MakesType op.And u t = (u ≡ ty.Boolean) × (t ≡ ty.Boolean)
MakesType op.Or u t = (u ≡ ty.Boolean) × (t ≡ ty.Boolean)
MakesType op.Same u t = t ≡ ty.Boolean
MakesType op.LevelLe u t = (u ≡ ty.Level) × (t ≡ ty.Boolean)
MakesType op.IntLe u t = (u ≡ ty.Integer) × (t ≡ ty.Boolean)
MakesType op.IntLt u t = (u ≡ ty.Integer) × (t ≡ ty.Boolean)
MakesType op.Add u t = (u ≡ ty.Integer) × (t ≡ ty.Integer)
MakesType op.Sub u t = (u ≡ ty.Integer) × (t ≡ ty.Integer)
MakesType op.Mul u t = (u ≡ ty.Integer) × (t ≡ ty.Integer)
MakesType op.Lub u t = (u ≡ ty.Level) × (t ≡ ty.Level)
MakesType op.Glb u t = (u ≡ ty.Level) × (t ≡ ty.Level)

-- The expression has type t over variables of the types xs. A quantifier has the number of the variables around it, which
-- is the place of its own variable.
abbrev mutual
  pub HasType : Signature → List Ty → Tree → Ty → Type 0
  HasType sg xs (Const v) t = IsTrue (is_constant sg t v)
  HasType sg xs (Var k) t = slice_get xs k ≡ Some t
  HasType sg xs (Not a) t = (t ≡ ty.Boolean) × HasType sg xs a ty.Boolean
  HasType sg xs (Two o a b) t = (u : Ty) × MakesType o u t × HasType sg xs a u × HasType sg xs b u
  HasType sg xs (If c a b) t = HasType sg xs c ty.Boolean × HasType sg xs a t × HasType sg xs b t
  HasType sg xs (Param q ds) t = (p : Parameter) × (slice_get sg.params q ≡ Some p) × (p.ty ≡ t) × HaveTypes sg xs ds (types_of p.formals)
  HasType sg xs (Look g ds) t = (f : Function) × (slice_get sg.functions g ≡ Some f) × (read_type f.kind ≡ Some t) × HaveTypes sg xs ds (types_of f.formals)
  HasType sg xs (Every k u b) t = (t ≡ ty.Boolean) × (k ≡ length xs) × IsTrue (is_finite sg u) × HasType sg (xs ++ u ∷ []) b ty.Boolean
  HasType sg xs (New g ds) t = (f : Function) × (slice_get sg.functions g ≡ Some f) × (primitive_type f.kind ≡ Some t) × HaveTypes sg xs ds (types_of f.formals)

  pub HaveTypes : Signature → List Ty → Trees → List Ty → Type 0
  HaveTypes sg xs none [] = Unit {0}
  HaveTypes sg xs none (t ∷ ts) = ⊥
  HaveTypes sg xs (more d ds) [] = ⊥
  HaveTypes sg xs (more d ds) (t ∷ ts) = HasType sg xs d t × HaveTypes sg xs ds ts
