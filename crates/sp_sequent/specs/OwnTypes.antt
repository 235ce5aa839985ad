-- The type that an expression shows by itself, and which subterms are level terms and atoms.
use Rattle.std.specs.Prelude.{ℕ, ◌+◌, Bool, true, false, not, ◌&&◌, if◌then◌else◌, List, [], ◌∷◌, Option, Some, None, slice_get}
use Rattle.std.specs.Option.{option_map}
use Rattle.sp_values.specs.declared.value.Value.{Value}
use Rattle.sp_values.specs.declared.value.Value.TheVariants as value
use Rattle.sp_values.specs.declared.value.Ty.{Ty}
use Rattle.sp_values.specs.declared.value.Ty.TheVariants as ty
use Rattle.sp_values.specs.declared.value.Op.{Op}
use Rattle.sp_values.specs.declared.value.Op.TheVariants as op
use Rattle.sp_core.specs.declared.function.Function.{Function}
use Rattle.sp_core.specs.Tree.{Tree, Const, Var, Not, Two, If, Param, Look, Every, New}
use Rattle.sp_core.specs.Typing.{Signature, read_type}
use Rattle.sp_sequent.specs.Same.{same_type}

-- `?` shows none
abbrev pub constant_type : Value → Option Ty
constant_type (value.Truth b) = Some ty.Boolean
constant_type (value.Int n) = Some ty.Integer
constant_type (value.Level l) = Some ty.Level
constant_type (value.Member k m) = Some (ty.Member k)
constant_type value.Unknown = None

abbrev pub result_type : Op → Ty
result_type op.Add = ty.Integer
result_type op.Sub = ty.Integer
result_type op.Mul = ty.Integer
result_type op.Lub = ty.Level
result_type op.Glb = ty.Level
result_type o = ty.Boolean

abbrev pub function_type : Option Function → Option Ty
function_type None = None
function_type (Some f) = read_type f.kind

-- an IF shows what its second part shows, which for LEVEL and BOOLEAN is its type
abbrev pub own_type : Signature → List Ty → Tree → Option Ty
own_type sg xs (Const v) = constant_type v
own_type sg xs (Var k) = slice_get xs k
own_type sg xs (Not a) = Some ty.Boolean
own_type sg xs (Two o a b) = Some (result_type o)
own_type sg xs (If c a b) = own_type sg xs a
own_type sg xs (Param q ds) = option_map (λ p. p.ty) (slice_get sg.params q)
own_type sg xs (Look g ds) = function_type (slice_get sg.functions g)
own_type sg xs (Every k t b) = Some ty.Boolean
own_type sg xs (New g ds) = function_type (slice_get sg.functions g)

abbrev pub is_in : Ty → Option Ty → Bool
is_in u None = false
is_in u (Some t) = same_type u t

abbrev pub is_level : Signature → List Ty → Tree → Bool
is_level sg xs e = is_in ty.Level (own_type sg xs e)

-- TRUE, FALSE and what is made of truths by NOT, AND, OR and IF
abbrev pub is_made_of_truths : Tree → Bool
is_made_of_truths (Const v) = true
is_made_of_truths (Not a) = true
is_made_of_truths (Two op.And a b) = true
is_made_of_truths (Two op.Or a b) = true
is_made_of_truths (If c a b) = true
is_made_of_truths e = false

abbrev pub is_atom : Signature → List Ty → Tree → Bool
is_atom sg xs e = is_in ty.Boolean (own_type sg xs e) && not (is_made_of_truths e)

-- the numbers of the atoms, the first subterm having the number k
abbrev pub atoms_from : Signature → List Ty → ℕ → List Tree → List ℕ
atoms_from sg xs k [] = []
atoms_from sg xs k (e ∷ es) = if is_atom sg xs e then k ∷ atoms_from sg xs (k + 1) es else atoms_from sg xs (k + 1) es
