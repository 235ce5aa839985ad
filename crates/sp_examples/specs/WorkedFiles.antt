-- A small specification of files that users of two levels read and write, once as it should be and once without the
-- exceptions of `write`, and an instance of it; for tests alone.
use Rattle.std.specs.Prelude.{ℕ, pos, true, false, List, [], ◌∷◌, codes}
use Rattle.sp_lattice.specs.Order.{Order}
use Rattle.sp_values.specs.declared.value.Op.TheVariants as op
use Rattle.sp_values.specs.declared.value.Ty.TheVariants as ty
use Rattle.sp_values.specs.declared.value.Value.TheVariants as value
use Rattle.sp_core.specs.declared.expr.Expr.{Expr}
use Rattle.sp_core.specs.declared.expr.Expr.TheVariants as expr
use Rattle.sp_core.specs.declared.function.Effect.TheVariants as effect
use Rattle.sp_core.specs.declared.function.Formal.{Formal}
use Rattle.sp_core.specs.declared.function.Function.{Function}
use Rattle.sp_core.specs.declared.function.Kind.TheVariants as kind
use Rattle.sp_core.specs.declared.function.Param.{Param}
use Rattle.sp_core.specs.declared.function.TypeInfo.{TypeInfo}
use Rattle.sp_core.specs.Instances.{InstanceParts, TableParts}
use Rattle.sp_core.specs.Parts.{Parts}
use Rattle.sp_examples.specs.Common.{designator}

-- users have number 0 among the types, files number 1
abbrev pub user : Formal
user = record { name = codes "u"; ty = ty.Member 0 }

abbrev pub file : Formal
file = record { name = codes "f"; ty = ty.Member 1 }

abbrev pub number : Formal
number = record { name = codes "x"; ty = ty.Integer }

-- a parameter that gives levels
abbrev pub level_param : List ℕ → Formal → Param
level_param name formal = record { name = name; formals = formal ∷ []; ty = ty.Level }

-- parameter p at the k-th formal
abbrev pub level_at : ℕ → ℕ → Expr
level_at p k = expr.Param p (expr.Var k ∷ [])

-- `NOT clr(u) <= cls(f)` for parameters p and q at the j-th and k-th formal
abbrev pub not_below : ℕ → ℕ → ℕ → ℕ → Expr
not_below p j q k = expr.Not (expr.Two op.LevelLe (level_at p j) (level_at q k))

-- what a file holds, hidden, at the file's level
abbrev pub data_function : Function
data_function = record {
  name = codes "data";
  visible = false;
  formals = file ∷ [];
  exceptions = [];
  kind = kind.Primitive ty.Integer (expr.Const (value.Int (pos 0)));
  level = level_at 1 0;
}

-- a user whose level isn't at or above that of the file can't read it
abbrev pub read_function : Function
read_function = record {
  name = codes "read";
  visible = true;
  formals = user ∷ file ∷ [];
  exceptions = (codes "no_read", not_below 1 1 0 0) ∷ [];
  kind = kind.Both ty.Integer (effect.Answer (expr.Look 0 (expr.Var 1 ∷ [])) ∷ []);
  level = level_at 0 0;
}

-- writing, with these exceptions
abbrev pub write_function : List (List ℕ × Expr) → Function
write_function exceptions = record {
  name = codes "write";
  visible = true;
  formals = user ∷ file ∷ number ∷ [];
  exceptions = exceptions;
  kind = kind.Operation (effect.Change 0 (expr.Var 1 ∷ []) (expr.Var 2) ∷ []);
  level = level_at 0 0;
}

-- a user whose level isn't at or below that of the file can't write it
abbrev pub no_write : List (List ℕ × Expr)
no_write = (codes "no_write", not_below 0 0 1 1) ∷ []

abbrev pub file_types : List TypeInfo
file_types = designator (codes "user") ∷ designator (codes "file") ∷ []

abbrev pub file_params : List Param
file_params = level_param (codes "clr") user ∷ level_param (codes "cls") file ∷ []

abbrev pub file_functions : List (List ℕ × Expr) → List Function
file_functions exceptions = data_function ∷ read_function ∷ write_function exceptions ∷ []

-- the specification over an order of two levels, with these exceptions of `write`
abbrev pub files_with : List (List ℕ × Expr) → List ℕ → Order → Parts
files_with exceptions name order = record {
  name = name;
  lattice = order;
  level_names = codes "LOW" ∷ codes "HIGH" ∷ [];
  types = file_types;
  params = file_params;
  assertions = [];
  functions = file_functions exceptions;
}

abbrev pub files : Order → Parts
files = files_with no_write (codes "files")

-- the specification without the exceptions of `write`
abbrev pub leaky : Order → Parts
leaky = files_with [] (codes "leaky")

-- a table that gives HIGH at one member of a type, and LOW at the others
abbrev pub high_at : ℕ → ℕ → TableParts
high_at k m = record { rows = (value.Member k m ∷ [], value.Level 1) ∷ []; other = value.Level 0 }

-- users alice and bob, files memo and plan: alice and plan are HIGH
abbrev pub small : InstanceParts
small = record {
  members = (codes "alice" ∷ codes "bob" ∷ []) ∷ (codes "memo" ∷ codes "plan" ∷ []) ∷ [];
  tables = high_at 0 0 ∷ high_at 1 1 ∷ [];
}
