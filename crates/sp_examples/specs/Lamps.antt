-- A specification of lamps whose effects have an IF and a FORALL, well-formed; and specifications that aren't, each for one
-- reason.
use Rattle.std.specs.Prelude.{Bool, true, false, List, [], ◌∷◌, codes}
use Rattle.sp_lattice.specs.Order.{Order}
use Rattle.sp_values.specs.declared.value.Ty.TheVariants as ty
use Rattle.sp_values.specs.declared.value.Value.TheVariants as value
use Rattle.sp_core.specs.declared.expr.Expr.{Expr}
use Rattle.sp_core.specs.declared.expr.Expr.TheVariants as expr
use Rattle.sp_core.specs.declared.function.Effect.{Effect}
use Rattle.sp_core.specs.declared.function.Effect.TheVariants as effect
use Rattle.sp_core.specs.declared.function.Formal.{Formal}
use Rattle.sp_core.specs.declared.function.Function.{Function}
use Rattle.sp_core.specs.declared.function.Kind.TheVariants as kind
use Rattle.sp_core.specs.Parts.{Parts}
use Rattle.sp_examples.specs.Common.{function, look_of, low, over_low_high}

abbrev pub lamp : Formal
lamp = record { name = codes "l"; ty = ty.Member 0 }

abbrev pub truth : Bool → Expr
truth b = expr.Const (value.Truth b)

-- `VFUN lit(lamp l) -> BOOLEAN; INITIALLY FALSE;`
abbrev pub lit_function : Function
lit_function = function (codes "lit") (lamp ∷ []) (kind.Primitive ty.Boolean (truth false)) low

-- `'lit(l) = b`, for the first variable
abbrev pub set_lit : Bool → Effect
set_lit b = effect.Change 0 (expr.Var 0 ∷ []) (truth b)

-- `IF lit(l) THEN 'lit(l) = FALSE; r = FALSE; ELSE 'lit(l) = TRUE; r = TRUE; END_IF;`
abbrev pub toggle_effect : Effect
toggle_effect = effect.If (look_of 0 0) (set_lit false ∷ effect.Answer (truth false) ∷ []) (set_lit true ∷ effect.Answer (truth true) ∷ [])

-- `OVFUN toggle(lamp l) -> BOOLEAN r;` with these effects
abbrev pub toggle_function : List Effect → Function
toggle_function es = function (codes "toggle") (lamp ∷ []) (kind.Both ty.Boolean es) low

-- `OFUN darken(); EFFECTS FORALL lamp l: 'lit(l) = FALSE; END_FORALL;`
abbrev pub darken_function : Function
darken_function = function (codes "darken") [] (kind.Operation (effect.Every 0 (ty.Member 0) (set_lit false ∷ []) ∷ [])) low

-- the specification
abbrev pub lamps_with : List Function → Order → Parts
lamps_with = over_low_high (codes "lamps") (codes "lamp" ∷ [])

abbrev pub lamps : Order → Parts
lamps = lamps_with (lit_function ∷ toggle_function (toggle_effect ∷ []) ∷ darken_function ∷ [])

-- Not well-formed

-- `r = TRUE` after the IF: a second result on each path
abbrev pub two_results : Order → Parts
two_results = lamps_with (lit_function ∷ toggle_function (toggle_effect ∷ effect.Answer (truth true) ∷ []) ∷ [])

-- `OFUN darken(lamp m); EFFECTS FORALL lamp l: 'lit(m) = FALSE; END_FORALL;`: the target isn't injective, since l stands
-- nowhere in it
abbrev pub not_injective : Order → Parts
not_injective = lamps_with (lit_function ∷ function (codes "darken") (lamp ∷ []) (kind.Operation (effect.Every 1 (ty.Member 0) (set_lit false ∷ []) ∷ [])) low ∷ [])

-- two functions of one name
abbrev pub one_name_twice : Order → Parts
one_name_twice = lamps_with (lit_function ∷ lit_function ∷ [])
