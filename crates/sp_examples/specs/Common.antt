-- What the worked specifications are built of: two levels, functions without exceptions, and small expressions.
use Rattle.std.specs.Prelude.{◌≡◌, ℕ, pos, true, List, [], ◌∷◌, map, None, codes}
use Rattle.sp_lattice.specs.Closure.{IsOrdered}
use Rattle.sp_lattice.specs.Order.{IsOrderOf, Order}
use Rattle.sp_values.specs.declared.value.Value.{Value}
use Rattle.sp_values.specs.declared.value.Value.TheVariants as value
use Rattle.sp_core.specs.declared.expr.Expr.{Expr}
use Rattle.sp_core.specs.declared.expr.Expr.TheVariants as expr
use Rattle.sp_core.specs.declared.function.Formal.{Formal}
use Rattle.sp_core.specs.declared.function.Function.{Function}
use Rattle.sp_core.specs.declared.function.Kind.{Kind}
use Rattle.sp_core.specs.declared.function.TypeInfo.{TypeInfo}
use Rattle.sp_core.specs.Parts.{Parts}

-- an order of two levels, of which the first is below the second
abbrev pub IsLowHigh : Order → Type 0
IsLowHigh = IsOrderOf 2 (IsOrdered ((0, 1) ∷ []))

-- the parts are those of a specification over such an order
pub record AreOverLowHigh (specification : Order → Parts) (p : Parts) : Type 0 where
  pub parts : p ≡ specification p.lattice
  pub order : IsLowHigh p.lattice

-- a designator type
abbrev pub designator : List ℕ → TypeInfo
designator name = record { name = name; members = None }

-- a visible function without exceptions
abbrev pub function : List ℕ → List Formal → Kind → Expr → Function
function name formals k level = record {
  name = name;
  visible = true;
  formals = formals;
  exceptions = [];
  kind = k;
  level = level;
}

-- the level LOW
abbrev pub low : Expr
low = expr.Const (value.Level 0)

-- a number, as a value
abbrev pub int : ℕ → Value
int n = value.Int (pos n)

-- the function of a number, at no arguments, and at the k-th formal
abbrev pub look_at : ℕ → Expr
look_at g = expr.Look g []

abbrev pub look_of : ℕ → ℕ → Expr
look_of g k = expr.Look g (expr.Var k ∷ [])

-- a specification over two levels, of designator types and functions alone
abbrev pub over_low_high : List ℕ → List (List ℕ) → List Function → Order → Parts
over_low_high name types functions order = record {
  name = name;
  lattice = order;
  level_names = codes "LOW" ∷ codes "HIGH" ∷ [];
  types = map designator types;
  params = [];
  assertions = [];
  functions = functions;
}
