-- A store of segments and mappings to it, whose flow formulas are written down in `Lists`; and the smallest mapping, for a test
-- of the call.
use Rattle.std.specs.Prelude.{ℕ, true, false, List, [], ◌∷◌, codes}
use Rattle.sp_lattice.specs.Order.{Order}
use Rattle.sp_values.specs.declared.value.Op.TheVariants as op
use Rattle.sp_values.specs.declared.value.Ty.TheVariants as ty
use Rattle.sp_core.specs.declared.expr.Expr.{Expr}
use Rattle.sp_core.specs.declared.expr.Expr.TheVariants as expr
use Rattle.sp_core.specs.declared.function.Effect.TheVariants as effect
use Rattle.sp_core.specs.declared.function.Formal.{Formal}
use Rattle.sp_core.specs.declared.function.Function.{Function}
use Rattle.sp_core.specs.declared.function.Kind.TheVariants as kind
use Rattle.sp_core.specs.declared.mapping.MapRow.{MapRow}
use Rattle.sp_core.specs.declared.mapping.Mapping.{Mapping}
use Rattle.sp_core.specs.Parts.{Parts}
use Rattle.sp_examples.specs.Common.{designator, function, int, look_at, low, over_low_high}

abbrev pub number : ℕ → Expr
number n = expr.Const (int n)

-- `clr` is parameter 0, of users, and `scls` parameter 1, of segments
abbrev pub clearance : ℕ → Expr
clearance k = expr.Param 0 (expr.Var k ∷ [])

abbrev pub class : ℕ → Expr
class k = expr.Param 1 (expr.Var k ∷ [])

abbrev pub user_named : List ℕ → Formal
user_named name = record { name = name; ty = ty.Member 0 }

abbrev pub segment_named : List ℕ → Formal
segment_named name = record { name = name; ty = ty.Member 1 }

abbrev pub number_named : List ℕ → Formal
number_named name = record { name = name; ty = ty.Integer }

-- `VFUN cell(seg s; INTEGER i) -> INTEGER; HIDDEN; INITIALLY 0;` at `scls(s)`
abbrev pub cell_function : Function
cell_function = record {
  name = codes "cell";
  visible = false;
  formals = segment_named (codes "s") ∷ number_named (codes "i") ∷ [];
  exceptions = [];
  kind = kind.Primitive ty.Integer (number 0);
  level = class 0;
}

-- `OFUN put(user u; seg s; INTEGER i; INTEGER x); EXCEPTIONS no_write: NOT clr(u) <= scls(s); EFFECTS 'cell(s, i) = x;` at
-- `clr(u)`
abbrev pub put_function : Function
put_function = record {
  name = codes "put";
  visible = true;
  formals = user_named (codes "u") ∷ segment_named (codes "s") ∷ number_named (codes "i") ∷ number_named (codes "x") ∷ [];
  exceptions = (codes "no_write", expr.Not (expr.Two op.LevelLe (clearance 0) (class 1))) ∷ [];
  kind = kind.Operation (effect.Change 0 (expr.Var 1 ∷ expr.Var 2 ∷ []) (expr.Var 3) ∷ []);
  level = clearance 0;
}

abbrev pub store : Order → Parts
store order = record {
  name = codes "store";
  lattice = order;
  level_names = codes "LOW" ∷ codes "HIGH" ∷ [];
  types = designator (codes "user") ∷ designator (codes "seg") ∷ [];
  params =
      record { name = codes "clr"; formals = user_named (codes "u") ∷ []; ty = ty.Level }
      ∷ record { name = codes "scls"; formals = segment_named (codes "s") ∷ []; ty = ty.Level }
      ∷ [];
  assertions = [];
  functions = cell_function ∷ put_function ∷ [];
}

-- a mapping of one row
abbrev pub mapping_of : MapRow → Mapping
mapping_of r = record { name = codes "down"; types = 0 ∷ 1 ∷ []; functions = r ∷ [] }

-- Function 0 above, `data(file f)`, by a value and at a level; a file above is a segment below.
abbrev pub data_row : Expr → Expr → MapRow
data_row value level = record { upper = 0; name = codes "data"; formals = segment_named (codes "f") ∷ []; value = value; level = level }

-- `cell(f, i)`
abbrev pub cell_at : Expr → Expr → Expr
cell_at f i = expr.Look 0 (f ∷ i ∷ [])

abbrev pub first_cell : Expr
first_cell = cell_at (expr.Var 0) (number 0)

-- `data(f) IS cell(f, 0);`
abbrev pub down : Expr → Mapping
down level = mapping_of (data_row first_cell level)

-- `data(f) IS IF scls(f) <= LOW THEN cell(f, 0) ELSE 0 END_IF;`
abbrev pub guarded : Mapping
guarded = mapping_of (data_row (expr.If (expr.Two op.LevelLe (class 0) low) first_cell (number 0)) low)

-- `data(f) IS cell(f, cell(f, 0));`
abbrev pub nested : Mapping
nested = mapping_of (data_row (cell_at (expr.Var 0) first_cell) (class 0))

-- `clean() IS FORALL seg s: cell(s, 0) = 0 END_FORALL;`, which is function 2 above
abbrev pub clean : Mapping
clean = mapping_of (record {
  upper = 2;
  name = codes "clean";
  formals = [];
  value = expr.Every 0 (ty.Member 1) (expr.Two op.Same first_cell (number 0));
  level = low;
})

-- A specification of one LOW number `a()`, and `data() IS a();`, which is function 3 above

abbrev pub number_function : Function
number_function = function (codes "a") [] (kind.Primitive ty.Integer (number 0)) low

abbrev pub one_number : Order → Parts
one_number = over_low_high (codes "number") [] (number_function ∷ [])

abbrev pub number_mapping : Mapping
number_mapping = record {
  name = codes "down";
  types = [];
  functions = record { upper = 3; name = codes "data"; formals = []; value = look_at 0; level = low } ∷ [];
}
