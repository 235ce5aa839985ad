-- A register and an operation that gives it two values at once; for tests alone.
use Rattle.std.specs.Prelude.{[], ◌∷◌, codes}
use Rattle.sp_lattice.specs.Order.{Order}
use Rattle.sp_values.specs.declared.value.Ty.TheVariants as ty
use Rattle.sp_core.specs.declared.expr.Expr.TheVariants as expr
use Rattle.sp_core.specs.declared.function.Effect.TheVariants as effect
use Rattle.sp_core.specs.declared.function.Function.{Function}
use Rattle.sp_core.specs.declared.function.Kind.TheVariants as kind
use Rattle.sp_core.specs.Parts.{Parts}
use Rattle.sp_examples.specs.Common.{function, int, low, over_low_high}

-- VFUN a() -> INTEGER; INITIALLY 0;
abbrev pub register : Function
register = function (codes "a") [] (kind.Primitive ty.Integer (expr.Const (int 0))) low

-- OFUN both(); EFFECTS 'a() = 1; 'a() = 2;
abbrev pub both_values : Function
both_values = function (codes "both") [] (kind.Operation (effect.Change 0 [] (expr.Const (int 1)) ∷ effect.Change 0 [] (expr.Const (int 2)) ∷ [])) low

abbrev pub quarrel : Order → Parts
quarrel = over_low_high (codes "quarrel") [] (register ∷ both_values ∷ [])
