-- The type that an expression has of its own, and its translation to core, with its definitions expanded.
use Rattle.std.specs.Prelude.{◌≡◌, ◌++◌, ◌∷◌, [], ℕ, suc, max, List, Option, None, Some, Bool, true, false, length, slice_get, ◌≤◌}
use Rattle.std.specs.List.{All}
use Rattle.sp_text.specs.declared.limits.TheConstants.{MOST_QUANTIFIERS}
use Rattle.sp_values.specs.declared.value.Ty.{Ty}
use Rattle.sp_values.specs.declared.value.Ty.TheVariants as ty
use Rattle.sp_values.specs.declared.value.Value.TheVariants as value
use Rattle.sp_values.specs.declared.value.Op.{Op}
use Rattle.sp_values.specs.declared.value.Op.TheVariants as op
use Rattle.sp_tree.specs.declared.expr.BinOp.{BinOp}
use Rattle.sp_tree.specs.declared.expr.BinOp.TheVariants as bin
use Rattle.sp_core.specs.declared.expr.Expr.{Expr}
use Rattle.sp_core.specs.Tree.{Tree, Trees, tree}
use Rattle.sp_core.specs.Tree as core
use Rattle.sp_core.specs.Measures.{quantifiers}
use Rattle.sp_expand.specs.Expansion.{put}
use Rattle.sp_plain.specs.Text.{Text, Texts, Name, Number, Truth, Unknown, Bottom, Top, Call, New, Paren, Not, Binary, Join, If, Quant, none, more}
use Rattle.sp_naming.specs.declared.declaration.Entity.TheVariants as entity
use Rattle.sp_judge.specs.Visible.{Visible}
use Rattle.sp_scopes.specs.declared.heads.Local.{Local}
use Rattle.sp_judge.specs.declared.scope.Meaning.{Meaning}
use Rattle.sp_judge.specs.declared.scope.Meaning.TheVariants as meaning_
use Rattle.sp_judge.specs.Names.{meaning, head_of, type_of_head, type_of, with_formal}

-- the type of a name: a variable's, that of a member, LEVEL
abbrev pub name_type : Meaning → Option Ty
name_type (meaning_.Variable k t) = Some t
name_type (meaning_.Shared (entity.Member t m)) = Some (ty.Member t)
name_type (meaning_.Shared (entity.Level k)) = Some ty.Level
name_type m = None

-- the type of what an operator makes
abbrev pub binary_type : BinOp → Ty
binary_type bin.Add = ty.Integer
binary_type bin.Sub = ty.Integer
binary_type bin.Mul = ty.Integer
binary_type o = ty.Boolean

-- of two types the first that is there
abbrev pub either_type : Option Ty → Option Ty → Option Ty
either_type (Some t) u = Some t
either_type None u = u

-- The type that an expression has of its own. `?` has none, nor has an IF of two such; a call has that of what is called.
abbrev pub own : Visible → List Local → Text → Option Ty
own s l (Name p x) = name_type (meaning s l x)
own s l (Number p n) = Some ty.Integer
own s l (Truth p b) = Some ty.Boolean
own s l (Unknown p) = None
own s l (Bottom p) = Some ty.Level
own s l (Top p) = Some ty.Level
own s l (Call p f ds) = type_of_head (head_of s (meaning s l f.name))
own s l (New p f ds) = type_of_head (head_of s (meaning s l f.name))
own s l (Paren p a) = own s l a
own s l (Not p a) = Some ty.Boolean
own s l (Binary p o a b) = Some (binary_type o)
own s l (Join p u a b) = Some ty.Level
own s l (If p c a b) = either_type (own s l a) (own s l b)
own s l (Quant p u f b) = Some ty.Boolean

-- a name: a variable by its number, a member, a level
abbrev pub name_core : Meaning → Tree
name_core (meaning_.Variable k t) = core.Var k
name_core (meaning_.Shared (entity.Member t m)) = core.Const (value.Member t m)
name_core (meaning_.Shared (entity.Level k)) = core.Const (value.Level k)
name_core m = core.Const value.Unknown

-- a definition at arguments, below n variables: its expression with the arguments for its formals
abbrev pub expanded : ℕ → Trees → Option Expr → Tree
expanded n ds None = core.Const value.Unknown
expanded n ds (Some e) = put n ds (tree e)

-- a call below n variables: of a parameter, of a V-function, or a definition expanded
abbrev pub call_core : Visible → ℕ → Meaning → Trees → Tree
call_core s n (meaning_.Shared (entity.Param p)) ds = core.Param p ds
call_core s n (meaning_.Shared (entity.Function g)) ds = core.Look g ds
call_core s n (meaning_.Shared (entity.Definition d)) ds = expanded n ds (slice_get s.cores d)
call_core s n m ds = core.Const value.Unknown

-- a quoted reference: the new value of a V-function
abbrev pub new_core : Meaning → Trees → Tree
new_core (meaning_.Shared (entity.Function g)) ds = core.New g ds
new_core m ds = core.Const value.Unknown

-- `<=` is of levels or of numbers
abbrev pub le_op : Option Ty → Op
le_op (Some ty.Level) = op.LevelLe
le_op t = op.IntLe

-- An operator, where `t` is the type of its two sides. `a IMPLIES b` is `(NOT a) OR b`, `a ~= b` is NOT of `a = b`, and `a > b`, `a >= b` are
-- `b < a`, `b <= a`.
abbrev pub binary_core : BinOp → Option Ty → Tree → Tree → Tree
binary_core bin.Iff t a b = core.Two op.Same a b
binary_core bin.Implies t a b = core.Two op.Or (core.Not a) b
binary_core bin.Or t a b = core.Two op.Or a b
binary_core bin.And t a b = core.Two op.And a b
binary_core bin.Eq t a b = core.Two op.Same a b
binary_core bin.Ne t a b = core.Not (core.Two op.Same a b)
binary_core bin.Lt t a b = core.Two op.IntLt a b
binary_core bin.Le t a b = core.Two (le_op t) a b
binary_core bin.Gt t a b = core.Two op.IntLt b a
binary_core bin.Ge t a b = core.Two op.IntLe b a
binary_core bin.Add t a b = core.Two op.Add a b
binary_core bin.Sub t a b = core.Two op.Sub a b
binary_core bin.Mul t a b = core.Two op.Mul a b

-- LUB, or GLB
abbrev pub join_op : Bool → Op
join_op true = op.Lub
join_op false = op.Glb

-- FORALL below k variables; EXISTS is NOT FORALL NOT
abbrev pub quant_core : Bool → ℕ → Ty → Tree → Tree
quant_core true k t b = core.Every k t b
quant_core false k t b = core.Not (core.Every k t (core.Not b))

-- What an expression means, where no rule is broken; else it is some expression. `-n` is a number, BOTTOM and TOP are the least and
-- the greatest level. Variables have the numbers of the variables around them.
abbrev mutual
  pub translation : Visible → List Local → Text → Tree
  translation s l (Name p x) = name_core (meaning s l x)
  translation s l (Number p n) = core.Const (value.Int n)
  translation s l (Truth p b) = core.Const (value.Truth b)
  translation s l (Unknown p) = core.Const value.Unknown
  translation s l (Bottom p) = core.Const (value.Level s.bottom)
  translation s l (Top p) = core.Const (value.Level s.top)
  translation s l (Call p f ds) = call_core s (length l) (meaning s l f.name) (translations s l ds)
  translation s l (New p f ds) = new_core (meaning s l f.name) (translations s l ds)
  translation s l (Paren p a) = translation s l a
  translation s l (Not p a) = core.Not (translation s l a)
  translation s l (Binary p o a b) = binary_core o (either_type (own s l a) (own s l b)) (translation s l a) (translation s l b)
  translation s l (Join p u a b) = core.Two (join_op u) (translation s l a) (translation s l b)
  translation s l (If p c a b) = core.If (translation s l c) (translation s l a) (translation s l b)
  translation s l (Quant p u f b) = quant_core u (length l) (type_of s f.ty) (translation s (with_formal s l f) b)

  pub translations : Visible → List Local → Texts → Trees
  translations s l none = core.none
  translations s l (more d ds) = core.more (translation s l d) (translations s l ds)

-- how many quantifiers of a text stand in one another, before expansion
abbrev mutual
  pub binders : Text → ℕ
  binders (Name p x) = 0
  binders (Number p n) = 0
  binders (Truth p b) = 0
  binders (Unknown p) = 0
  binders (Bottom p) = 0
  binders (Top p) = 0
  binders (Call p f ds) = binders_in ds
  binders (New p f ds) = binders_in ds
  binders (Paren p a) = binders a
  binders (Not p a) = binders a
  binders (Binary p o a b) = max (binders a) (binders b)
  binders (Join p u a b) = max (binders a) (binders b)
  binders (If p c a b) = max (binders c) (max (binders a) (binders b))
  binders (Quant p u f b) = suc (binders b)

  pub binders_in : Texts → ℕ
  binders_in none = 0
  binders_in (more d ds) = max (binders d) (binders_in ds)

-- the definitions' expressions are within the limit of quantifiers
abbrev pub AreFine : List Expr → Type 0
AreFine cores = All (λ e. quantifiers (tree e) ≤ MOST_QUANTIFIERS) cores

-- the translation of an expression, with its type: the asked one, else its own
abbrev pub IsElaborated : Visible → List Local → Option Ty → Text → Expr × Ty → Type 0
IsElaborated s l q e r = (tree r.0 ≡ translation s l e) × (either_type q (own s l e) ≡ Some r.1)
