-- What types and levels of an upper specification become in a lower one. Declared type k becomes type `ts k`; its members become those
-- of the lower type with the same numbers, and levels stay, since the two lattices are one.
use Rattle.std.specs.Prelude.{ℕ, List, Option, slice_get, slice_index_or}
use Rattle.sp_values.specs.declared.value.Ty.{Ty}
use Rattle.sp_values.specs.declared.value.Ty.TheVariants as ty
use Rattle.sp_values.specs.declared.value.Value.{Value}
use Rattle.sp_values.specs.declared.value.Value.TheVariants as value
use Rattle.sp_core.specs.declared.expr.Expr.{Expr}
use Rattle.sp_core.specs.Tree.{Tree, Trees, Const, Var, Not, Two, If, Param, Look, Every, New, none, more}
use Rattle.sp_judge.specs.Translation.{expanded}

abbrev pub type_over : List ℕ → Ty → Ty
type_over ts ty.Boolean = ty.Boolean
type_over ts ty.Integer = ty.Integer
type_over ts ty.Level = ty.Level
type_over ts (ty.Member k) = ty.Member (slice_index_or ts k 0)

abbrev pub value_over : List ℕ → Value → Value
value_over ts (value.Truth b) = value.Truth b
value_over ts (value.Int z) = value.Int z
value_over ts (value.Level l) = value.Level l
value_over ts (value.Member k m) = value.Member (slice_index_or ts k 0) m
value_over ts value.Unknown = value.Unknown

-- An upper level over n variables, which stay. A parameter becomes its expression over lower parameters, `ps`, with the translated
-- arguments in the place of its formals. No level looks at a V-function or holds a quantifier.
abbrev mutual
  pub level_over : List ℕ → List Expr → ℕ → Tree → Tree
  level_over ts ps n (Const v) = Const (value_over ts v)
  level_over ts ps n (Var k) = Var k
  level_over ts ps n (Not a) = Not (level_over ts ps n a)
  level_over ts ps n (Two o a b) = Two o (level_over ts ps n a) (level_over ts ps n b)
  level_over ts ps n (If c a b) = If (level_over ts ps n c) (level_over ts ps n a) (level_over ts ps n b)
  level_over ts ps n (Param q ds) = expanded n (levels_over ts ps n ds) (slice_get ps q)
  level_over ts ps n (Look g ds) = Const value.Unknown
  level_over ts ps n (Every k t b) = Const value.Unknown
  level_over ts ps n (New g ds) = Const value.Unknown

  pub levels_over : List ℕ → List Expr → ℕ → Trees → Trees
  levels_over ts ps n none = none
  levels_over ts ps n (more d ds) = more (level_over ts ps n d) (levels_over ts ps n ds)
