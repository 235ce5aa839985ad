-- Small specifications whose flow formulas are written down in `Lists`. What their functions are is said beside each in
-- the specification's own language.
use Rattle.std.specs.Prelude.{ℕ, true, List, [], ◌∷◌, codes}
use Rattle.sp_lattice.specs.Order.{Order}
use Rattle.sp_values.specs.declared.value.Op.TheVariants as op
use Rattle.sp_values.specs.declared.value.Ty.{Ty}
use Rattle.sp_values.specs.declared.value.Ty.TheVariants as ty
use Rattle.sp_values.specs.declared.value.Value.TheVariants as value
use Rattle.sp_core.specs.declared.expr.Expr.{Expr}
use Rattle.sp_core.specs.declared.expr.Expr.TheVariants as expr
use Rattle.sp_core.specs.declared.function.Assertion.{Assertion}
use Rattle.sp_core.specs.declared.function.Effect.{Effect}
use Rattle.sp_core.specs.declared.function.Effect.TheVariants as effect
use Rattle.sp_core.specs.declared.function.Formal.{Formal}
use Rattle.sp_core.specs.declared.function.Function.{Function}
use Rattle.sp_core.specs.declared.function.Kind.TheVariants as kind
use Rattle.sp_core.specs.declared.function.Param.{Param}
use Rattle.sp_core.specs.Parts.{Parts}
use Rattle.sp_examples.specs.Common.{function, int, look_at, look_of, low, over_low_high}

abbrev pub high : Expr
high = expr.Const (value.Level 1)

abbrev pub number : ℕ → Expr
number n = expr.Const (int n)

-- a V-function without formals that is 0, or TRUE, at first
abbrev pub counter : List ℕ → Expr → Function
counter name level = function name [] (kind.Primitive ty.Integer (number 0)) level

abbrev pub switch : List ℕ → Function
switch name = function name [] (kind.Primitive ty.Boolean (expr.Const (value.Truth true))) low

-- Boxes: `sel()` and `box(INTEGER i)` are HIGH, `OFUN poke(); EFFECTS 'box(sel()) = 1;` is LOW

abbrev pub box_function : Function
box_function = function (codes "box") (record { name = codes "i"; ty = ty.Integer } ∷ []) (kind.Primitive ty.Integer (number 0)) high

abbrev pub poke_function : Function
poke_function = function (codes "poke") [] (kind.Operation (effect.Change 1 (look_at 0 ∷ []) (number 1) ∷ [])) low

abbrev pub boxes : Order → Parts
boxes = over_low_high (codes "m") [] (counter (codes "sel") high ∷ box_function ∷ poke_function ∷ [])

-- Switches: `OFUN op(); EFFECTS IF p() THEN 'g() = 1; ELSE END_IF; IF q() THEN 'g() = 2; ELSE END_IF;`

abbrev pub op_effects : List Effect
op_effects =
    effect.If (look_at 0) (effect.Change 2 [] (number 1) ∷ []) []
    ∷ effect.If (look_at 1) (effect.Change 2 [] (number 2) ∷ []) []
    ∷ []

abbrev pub op_function : Function
op_function = function (codes "op") [] (kind.Operation op_effects) low

abbrev pub switches : Order → Parts
switches = over_low_high (codes "m") [] (switch (codes "p") ∷ switch (codes "q") ∷ counter (codes "g") low ∷ op_function ∷ [])

-- Pools: `VFUN seen(user u) -> INTEGER; DERIVATION pool();` at `clr(u)`, and the same for two users, at LOW

abbrev pub user : List ℕ → Formal
user name = record { name = name; ty = ty.Member 0 }

-- `clr(user u)` is parameter 0, `base()` is parameter 1
abbrev pub clearance : ℕ → Expr
clearance k = expr.Param 0 (expr.Var k ∷ [])

abbrev pub base_level : Expr
base_level = expr.Param 1 []

abbrev pub level_params : List Param
level_params = record { name = codes "clr"; formals = user (codes "u") ∷ []; ty = ty.Level } ∷ record { name = codes "base"; formals = []; ty = ty.Level } ∷ []

-- `FORALL user u: base() <= clr(u)`
abbrev pub base_below_one : Assertion
base_below_one = record { vars = user (codes "u") ∷ []; body = expr.Two op.LevelLe base_level (clearance 0) }

-- `FORALL user u: FORALL user v: base() <= LUB(clr(u), clr(v))`
abbrev pub base_below_two : Assertion
base_below_two = record { vars = user (codes "u") ∷ user (codes "v") ∷ []; body = expr.Two op.LevelLe base_level (expr.Two op.Lub (clearance 0) (clearance 1)) }

abbrev pub seen_by_one : Function
seen_by_one = function (codes "seen") (user (codes "u") ∷ []) (kind.Derived ty.Integer (look_at 0)) (clearance 0)

abbrev pub seen_by_two : Function
seen_by_two = function (codes "both") (user (codes "u") ∷ user (codes "v") ∷ []) (kind.Derived ty.Integer (look_at 0)) low

abbrev pub pools : List Assertion → Function → Order → Parts
pools assertions seen order = record (over_low_high (codes "m") (codes "user" ∷ []) (counter (codes "pool") base_level ∷ seen ∷ []) order) { params = level_params; assertions = assertions }

-- Marks: `VFUN h(t x) -> INTEGER; INITIALLY 0;` and
-- `OFUN f(); EXCEPTIONS e: FORALL t y: h(y) = 1; EFFECTS FORALL t x: IF FORALL t y: h(y) = 1 THEN 'h(x) = 1; 'h(x) = 2; ELSE END_IF; END_FORALL;`

abbrev pub mark : Ty
mark = ty.Member 0

-- `FORALL t y: h(y) = 1`, the y having number k
abbrev pub all_marked : ℕ → Expr
all_marked k = expr.Every k mark (expr.Two op.Same (look_of 0 k) (number 1))

abbrev pub mark_effects : List Effect
mark_effects = effect.Every 0 mark (effect.If (all_marked 1) (effect.Change 0 (expr.Var 0 ∷ []) (number 1) ∷ effect.Change 0 (expr.Var 0 ∷ []) (number 2) ∷ []) [] ∷ []) ∷ []

abbrev pub mark_function : Function
mark_function = record (function (codes "f") [] (kind.Operation mark_effects) low) { exceptions = (codes "e", all_marked 0) ∷ [] }

abbrev pub marks : Order → Parts
marks = over_low_high (codes "m") (codes "t" ∷ []) (function (codes "h") (record { name = codes "x"; ty = mark } ∷ []) (kind.Primitive ty.Integer (number 0)) low ∷ mark_function ∷ [])
