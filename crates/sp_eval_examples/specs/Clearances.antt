-- A small specification of users with clearances, with functions on numbers out of range and an enumeration, instances of
-- it, and sentences over it; for tests alone.
use Rattle.std.specs.Prelude.{ℕ, pos, false, List, [], ◌∷◌, Some, codes}
use Rattle.sp_lattice.specs.Order.{Order}
use Rattle.sp_values.specs.declared.value.Op.TheVariants as op
use Rattle.sp_values.specs.declared.value.Ty.{Ty}
use Rattle.sp_values.specs.declared.value.Ty.TheVariants as ty
use Rattle.sp_values.specs.declared.value.Value.TheVariants as value
use Rattle.sp_core.specs.declared.expr.Expr.{Expr}
use Rattle.sp_core.specs.declared.expr.Expr.TheVariants as expr
use Rattle.sp_core.specs.declared.function.Assertion.{Assertion}
use Rattle.sp_core.specs.declared.function.Formal.{Formal}
use Rattle.sp_core.specs.declared.function.Function.{Function}
use Rattle.sp_core.specs.declared.function.Kind.TheVariants as kind
use Rattle.sp_core.specs.declared.function.Param.{Param}
use Rattle.sp_core.specs.declared.function.TypeInfo.{TypeInfo}
use Rattle.sp_core.specs.Instances.{InstanceParts, TableParts}
use Rattle.sp_core.specs.Parts.{Parts}
use Rattle.sp_examples.specs.Common.{designator, function, look_at, low}

-- Types and parameters

-- the two colours
abbrev pub colours : List (List ℕ)
colours = codes "red" ∷ codes "blue" ∷ []

-- users, a designator type, have number 0 among the types; colours, an enumeration, number 1
abbrev pub user_type : TypeInfo
user_type = designator (codes "user")

abbrev pub colour_type : TypeInfo
colour_type = record { name = codes "colour"; members = Some colours }

abbrev pub user : Formal
user = record { name = codes "u"; ty = ty.Member 0 }

-- the parameters `clr(user u)`, number 0, and `base()`, number 1, give levels
abbrev pub clr : Param
clr = record { name = codes "clr"; formals = user ∷ []; ty = ty.Level }

abbrev pub base : Param
base = record { name = codes "base"; formals = []; ty = ty.Level }

-- `clr(u)` for the first variable, and `base()`
abbrev pub clearance : Expr
clearance = expr.Param 0 (expr.Var 0 ∷ [])

abbrev pub base_level : Expr
base_level = expr.Param 1 []

-- FORALL user u: base() <= clr(u)
abbrev pub base_is_below : Assertion
base_is_below = record { vars = user ∷ []; body = expr.Two op.LevelLe base_level clearance }

-- Functions

-- the greatest number and 1, which is out of range
abbrev pub max_function : Function
max_function = function (codes "max") [] (kind.Derived ty.Integer (expr.Two op.Add (expr.Const (value.Int (pos 9223372036854775807))) (expr.Const (value.Int (pos 1))))) low

-- `max() <= 0`
abbrev pub le_function : Function
le_function = function (codes "le") [] (kind.Derived ty.Boolean (expr.Two op.IntLe (look_at 0) (expr.Const (value.Int (pos 0))))) low

-- `max() = max()`
abbrev pub eq_function : Function
eq_function = function (codes "eq") [] (kind.Derived ty.Boolean (expr.Two op.Same (look_at 0) (look_at 0))) low

-- a number that is 0 at first
abbrev pub pool_function : Function
pool_function = function (codes "pool") [] (kind.Primitive ty.Integer (expr.Const (value.Int (pos 0)))) base_level

-- the same number, for a user, at the user's clearance
abbrev pub seen_function : Function
seen_function = function (codes "seen") (user ∷ []) (kind.Derived ty.Integer (look_at 3)) clearance

abbrev pub functions : List Function
functions = max_function ∷ le_function ∷ eq_function ∷ pool_function ∷ seen_function ∷ []

-- the specification, over an order of the levels
abbrev pub clearances : Order → Parts
clearances order = record {
  name = codes "clearances";
  lattice = order;
  level_names = codes "LOW" ∷ codes "HIGH" ∷ [];
  types = user_type ∷ colour_type ∷ [];
  params = clr ∷ base ∷ [];
  assertions = base_is_below ∷ [];
  functions = functions;
}

-- Instances

-- a table that gives one level everywhere
abbrev pub everywhere : ℕ → TableParts
everywhere l = record { rows = []; other = value.Level l }

-- a table that gives HIGH at the first user, and LOW at the others
abbrev pub high_for_first : TableParts
high_for_first = record { rows = (value.Member 0 0 ∷ [], value.Level 1) ∷ []; other = value.Level 0 }

-- an instance with these users and tables
abbrev pub instance_of : List (List ℕ) → TableParts → TableParts → InstanceParts
instance_of users clr base = record { members = users ∷ colours ∷ []; tables = clr ∷ base ∷ [] }

abbrev pub one_user : List (List ℕ)
one_user = codes "alice" ∷ []

-- one user, and LOW everywhere
abbrev pub all_low : InstanceParts
all_low = instance_of one_user (everywhere 0) (everywhere 0)

-- one user, whose clearance is HIGH
abbrev pub first_is_high : InstanceParts
first_is_high = instance_of one_user high_for_first (everywhere 0)

-- one user, whose clearance LOW isn't at or above the base HIGH
abbrev pub base_is_high : InstanceParts
base_is_high = instance_of one_user (everywhere 0) (everywhere 1)

-- the same without users
abbrev pub nobody : InstanceParts
nobody = instance_of [] (everywhere 0) (everywhere 1)

-- Sentences

-- FORALL over a type, with no variable around it
abbrev pub every : Ty → Expr → Expr
every t body = expr.Every 0 t body

-- x OR NOT x, for each truth value x
abbrev pub excluded_middle : Expr
excluded_middle = every ty.Boolean (expr.Two op.Or (expr.Var 0) (expr.Not (expr.Var 0)))

-- x, for each truth value x
abbrev pub each_is_true : Expr
each_is_true = every ty.Boolean (expr.Var 0)

-- LOW is at or below each level
abbrev pub low_is_least : Expr
low_is_least = every ty.Level (expr.Two op.LevelLe low (expr.Var 0))

-- each colour is the first one
abbrev pub each_is_red : Expr
each_is_red = every (ty.Member 1) (expr.Two op.Same (expr.Var 0) (expr.Const (value.Member 1 0)))

-- no user is `?`
abbrev pub none_is_unknown : Expr
none_is_unknown = every (ty.Member 0) (expr.Not (expr.Two op.Same (expr.Var 0) (expr.Const value.Unknown)))

-- FALSE, for each user
abbrev pub each_user_is_false : Expr
each_user_is_false = every (ty.Member 0) (expr.Const (value.Truth false))
