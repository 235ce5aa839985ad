-- A specification of a number and sixteen derived functions, each one more than the function before it; for tests alone.
use Rattle.std.specs.Prelude.{ℕ, zero, suc, ◌+◌, pos, List, [], ◌∷◌, map, codes}
use Rattle.std.specs.List.{range_with_len}
use Rattle.sp_lattice.specs.Order.{Order}
use Rattle.sp_values.specs.declared.value.Op.TheVariants as op
use Rattle.sp_values.specs.declared.value.Ty.TheVariants as ty
use Rattle.sp_values.specs.declared.value.Value.TheVariants as value
use Rattle.sp_core.specs.declared.expr.Expr.TheVariants as expr
use Rattle.sp_core.specs.declared.function.Function.{Function}
use Rattle.sp_core.specs.declared.function.Kind.{Kind}
use Rattle.sp_core.specs.declared.function.Kind.TheVariants as kind
use Rattle.sp_core.specs.Parts.{Parts}
use Rattle.sp_examples.specs.Common.{function, look_at, low, over_low_high}

-- the number 0 at first, and then the function before and 1
abbrev pub count_kind : ℕ → Kind
count_kind zero = kind.Primitive ty.Integer (expr.Const (value.Int (pos 0)))
count_kind (suc k) = kind.Derived ty.Integer (expr.Two op.Add (look_at k) (expr.Const (value.Int (pos 1))))

-- the function of number k, named by the k-th small letter
abbrev pub count_function : ℕ → Function
count_function k = function ((97 + k) ∷ []) [] (count_kind k) low

-- the first n functions
abbrev pub count_functions : ℕ → List Function
count_functions n = map count_function (range_with_len 0 n)

-- the specification of n functions, over an order of the levels
abbrev pub counting_to : ℕ → Order → Parts
counting_to n = over_low_high (codes "counting") [] (count_functions n)

-- a chain of sixteen derivations
abbrev pub counting : Order → Parts
counting = counting_to 17
