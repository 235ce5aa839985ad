-- When the names of a place are those of a signature, and what it is that a translation fits the type that is asked of it.
use Rattle.std.specs.Prelude.{◌≡◌, ℕ, ℤ, Bool, true, false, List, [], ◌∷◌, map, length, Option, Some, None, slice_get, nat_lt, IsTrue}
use Rattle.sp_values.specs.declared.value.Ty.{Ty}
use Rattle.sp_values.specs.declared.value.Ty.TheVariants as ty
use Rattle.sp_values.specs.Arithmetic.{in_range}
use Rattle.sp_core.specs.declared.expr.Expr.{Expr}
use Rattle.sp_core.specs.declared.function.Function.{Function}
use Rattle.sp_core.specs.declared.function.Kind.{Kind}
use Rattle.sp_core.specs.declared.function.Kind.TheVariants as kind
use Rattle.sp_core.specs.declared.function.Param.{Param as Parameter}
use Rattle.sp_core.specs.Machine.{types_of}
use Rattle.sp_core.specs.Measures.{Anything, LooksAt, Nothing}
use Rattle.sp_core.specs.Tree.{Tree, tree}
use Rattle.sp_core.specs.Typing.{Signature, HasType, declared_members, is_type, read_type, primitive_type}
use Rattle.sp_plain.specs.Text.{Text, Texts, Name, Number, Truth, Unknown, Bottom, Top, Call, New, Paren, Not, Binary, Join, If, Quant, none, more}
use Rattle.sp_naming.specs.declared.declaration.Entity.TheVariants as entity
use Rattle.sp_scopes.specs.declared.heads.Head.{Head}
use Rattle.sp_scopes.specs.declared.heads.Sort.{Sort}
use Rattle.sp_scopes.specs.declared.heads.Sort.TheVariants as sort
use Rattle.sp_judge.specs.declared.scope.Site.{Site}
use Rattle.sp_judge.specs.declared.scope.Site.TheVariants as site
use Rattle.sp_judge.specs.Visible.{Visible, see, param_at, function_at, definition_at}
use Rattle.sp_scopes.specs.declared.heads.Local.{Local}
use Rattle.sp_judge.specs.declared.scope.Meaning.{Meaning}
use Rattle.sp_judge.specs.declared.scope.Meaning.TheVariants as meaning_
use Rattle.sp_judge.specs.Names.{shared_of, sort_type}
use Rattle.sp_judge.specs.Broken.{has_unknown, may_quote}

-- the types of some variables
abbrev pub types : List Local → List Ty
types [] = []
types (l ∷ ls) = l.ty ∷ types ls

-- they are types of the signature
abbrev pub AreTypes : Signature → List Local → Type 0
AreTypes sg [] = Unit {0}
AreTypes sg (l ∷ ls) = IsTrue (is_type sg l.ty) × AreTypes sg ls

abbrev pub IsAsked : Signature → Option Ty → Type 0
IsAsked sg None = Unit {0}
IsAsked sg (Some t) = IsTrue (is_type sg t)

-- what a name stands for is there, below variables of the types xs
abbrev pub IsMeant : Signature → List Ty → Meaning → Type 0
IsMeant sg xs (meaning_.Variable k t) = (slice_get xs k ≡ Some t) × IsTrue (is_type sg t)
IsMeant sg xs (meaning_.Shared (entity.Declared t)) = IsTrue (nat_lt t (length sg.types))
IsMeant sg xs (meaning_.Shared (entity.Member t m)) = IsTrue (nat_lt t (length sg.types)) × IsTrue (nat_lt m (declared_members (slice_get sg.types t)))
IsMeant sg xs (meaning_.Shared (entity.Level k)) = IsTrue (nat_lt k sg.levels)
IsMeant sg xs m = Unit {0}

-- the type that it declares, for its calls or for its result
abbrev pub any_type : Sort → Option Ty
any_type (sort.Plain t) = Some t
any_type (sort.Primitive t) = Some t
any_type (sort.Derived t) = Some t
any_type sort.Operation = None
any_type (sort.Both t) = Some t

-- a head speaks of types of the signature
pub record IsHead (sg : Signature) (h : Head) : Type 0 where
  pub formals : AreTypes sg h.formals
  pub result : IsAsked sg (sort_type h.sort)
  pub any : IsAsked sg (any_type h.sort)

-- the head of this parameter, and of this function
pub record IsParamHead (h : Head) (p : Parameter) : Type 0 where
  pub formals : types_of p.formals ≡ types h.formals
  pub result : sort_type h.sort ≡ Some p.ty

-- the sort of a function
abbrev pub kind_sort : Kind → Sort
kind_sort (kind.Primitive t e) = sort.Primitive t
kind_sort (kind.Derived t e) = sort.Derived t
kind_sort (kind.Operation es) = sort.Operation
kind_sort (kind.Both t es) = sort.Both t

pub record IsFunctionHead (h : Head) (f : Function) : Type 0 where
  pub formals : types_of f.formals ≡ types h.formals
  pub sort : kind_sort f.kind ≡ h.sort

-- what a scope names is in the signature, and each definition's expression has its head's type over its formals
pub record IsScopeOf (sg : Signature) (s : Visible) : Type 0 where
  pub shared : (x : List ℕ) → IsMeant sg [] (shared_of (see s x))
  pub bottom : IsTrue (nat_lt s.bottom sg.levels)
  pub top : IsTrue (nat_lt s.top sg.levels)
  pub param_heads : (k : ℕ) (h : Head) → param_at s k ≡ Some h → IsHead sg h
  pub function_heads : (k : ℕ) (h : Head) → function_at s k ≡ Some h → IsHead sg h
  pub definition_heads : (k : ℕ) (h : Head) → definition_at s k ≡ Some h → IsHead sg h
  pub params : (k : ℕ) (h : Head) → param_at s k ≡ Some h → (p : Parameter) × (slice_get sg.params k ≡ Some p) × IsParamHead h p
  pub functions : (k : ℕ) (h : Head) → function_at s k ≡ Some h → (f : Function) × (slice_get sg.functions k ≡ Some f) × IsFunctionHead h f
  pub definitions : (k : ℕ) (h : Head) (e : Expr) (t : Ty) → definition_at s k ≡ Some h → slice_get s.cores k ≡ Some e → sort_type h.sort ≡ Some t → HasType sg (types h.formals) (tree e) t

-- a place that the specification keeps
abbrev pub IsKept : Site → Type 0
IsKept site.Loose = ⊥
IsKept i = Unit {0}

-- a place outside changes and results, where no new value is read
abbrev pub IsOld : Site → Type 0
IsOld site.Outside = Unit {0}
IsOld site.Guard = Unit {0}
IsOld i = ⊥

-- what the translation of a part is: of the asked type; or of its own; or of each type with `?`
abbrev pub Fits : Signature → List Ty → Option Ty → Option Ty → Tree → Type 0
Fits sg xs (Some q) o e = HasType sg xs e q
Fits sg xs None (Some t) e = HasType sg xs e t
Fits sg xs None None e = (t : Ty) → IsTrue (is_type sg t) → has_unknown t ≡ true → HasType sg xs e t

-- its numbers are in range, as those of every text are
abbrev mutual
  pub AreNumbers : Text → Type 0
  AreNumbers (Number p n) = IsTrue (in_range n)
  AreNumbers (Call p f ds) = AreNumbersIn ds
  AreNumbers (New p f ds) = AreNumbersIn ds
  AreNumbers (Paren p a) = AreNumbers a
  AreNumbers (Not p a) = AreNumbers a
  AreNumbers (Binary p o a b) = AreNumbers a × AreNumbers b
  AreNumbers (Join p u a b) = AreNumbers a × AreNumbers b
  AreNumbers (If p c a b) = AreNumbers c × AreNumbers a × AreNumbers b
  AreNumbers (Quant p u f b) = AreNumbers b
  AreNumbers (Name p x) = Unit {0}
  AreNumbers (Truth p b) = Unit {0}
  AreNumbers (Unknown p) = Unit {0}
  AreNumbers (Bottom p) = Unit {0}
  AreNumbers (Top p) = Unit {0}

  pub AreNumbersIn : Texts → Type 0
  AreNumbersIn none = Unit {0}
  AreNumbersIn (more d ds) = AreNumbers d × AreNumbersIn ds

-- the V-functions whose quoted references may stand there
abbrev pub MayQuote : Visible → Site → ℕ → Type 0
MayQuote s i g = IsTrue (may_quote i (function_at s g))

-- no definition's expression holds a new value
abbrev pub HoldNoNew : Visible → Type 0
HoldNoNew s = (k : ℕ) (e : Expr) → slice_get s.cores k ≡ Some e → LooksAt Anything Nothing (tree e)
