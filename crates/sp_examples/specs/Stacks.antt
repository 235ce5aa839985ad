-- A specification of stacks, whose `push` reads a new value: it puts the value at the new pointer. And effects that read new
-- values in a cycle.
use Rattle.std.specs.Prelude.{ℕ, false, List, [], ◌∷◌, codes}
use Rattle.sp_lattice.specs.Order.{Order}
use Rattle.sp_values.specs.declared.place.Invocation.{Invocation}
use Rattle.sp_values.specs.declared.value.Op.TheVariants as op
use Rattle.sp_values.specs.declared.value.Ty.TheVariants as ty
use Rattle.sp_values.specs.declared.value.Value.{Value}
use Rattle.sp_values.specs.declared.value.Value.TheVariants as value
use Rattle.sp_core.specs.declared.expr.Expr.{Expr}
use Rattle.sp_core.specs.declared.expr.Expr.TheVariants as expr
use Rattle.sp_core.specs.declared.function.Effect.{Effect}
use Rattle.sp_core.specs.declared.function.Effect.TheVariants as effect
use Rattle.sp_core.specs.declared.function.Formal.{Formal}
use Rattle.sp_core.specs.declared.function.Function.{Function}
use Rattle.sp_core.specs.declared.function.Kind.TheVariants as kind
use Rattle.sp_core.specs.Parts.{Parts}
use Rattle.sp_core.specs.States.{put_at}
use Rattle.sp_core.specs.Values.{Store}
use Rattle.sp_examples.specs.Common.{function, int, look_of, low, over_low_high}

abbrev pub stack_formal : Formal
stack_formal = record { name = codes "s"; ty = ty.Member 0 }

abbrev pub index_formal : Formal
index_formal = record { name = codes "i"; ty = ty.Integer }

abbrev pub one : Expr
one = expr.Const (int 1)

-- `ptr(s)`, and `'ptr(s)`
abbrev pub pointer : Expr
pointer = look_of 0 0

abbrev pub new_pointer : Expr
new_pointer = expr.New 0 (expr.Var 0 ∷ [])

-- `VFUN ptr(stk s) -> INTEGER; HIDDEN; INITIALLY 0;`
abbrev pub pointer_function : Function
pointer_function = record (function (codes "ptr") (stack_formal ∷ []) (kind.Primitive ty.Integer (expr.Const (int 0))) low) { visible = false }

-- `VFUN stack(stk s; INTEGER i) -> INTEGER; HIDDEN; INITIALLY ?;`
abbrev pub stack_function : Function
stack_function = record (function (codes "stack") (stack_formal ∷ index_formal ∷ []) (kind.Primitive ty.Integer (expr.Const value.Unknown)) low) { visible = false }

-- `'ptr(s) = ptr(s) + 1; 'stack(s, 'ptr(s)) = v;`
abbrev pub push_effects : List Effect
push_effects =
    effect.Change 0 (expr.Var 0 ∷ []) (expr.Two op.Add pointer one)
    ∷ effect.Change 1 (expr.Var 0 ∷ new_pointer ∷ []) (expr.Var 1)
    ∷ []

-- `OFUN push(stk s; INTEGER v);`
abbrev pub push_function : Function
push_function = function (codes "push") (stack_formal ∷ record { name = codes "v"; ty = ty.Integer } ∷ []) (kind.Operation push_effects) low

-- `r = stack(s, ptr(s)); 'ptr(s) = ptr(s) - 1;`
abbrev pub pop_effects : List Effect
pop_effects =
    effect.Answer (expr.Look 1 (expr.Var 0 ∷ pointer ∷ []))
    ∷ effect.Change 0 (expr.Var 0 ∷ []) (expr.Two op.Sub pointer one)
    ∷ []

-- `ptr(s) = 0`
abbrev pub is_empty : Expr
is_empty = expr.Two op.Same pointer (expr.Const (int 0))

-- `OVFUN pop(stk s) -> INTEGER r; EXCEPTIONS empty: ptr(s) = 0;`
abbrev pub pop_function : Function
pop_function = record (function (codes "pop") (stack_formal ∷ []) (kind.Both ty.Integer pop_effects) low) { exceptions = (codes "empty", is_empty) ∷ [] }

abbrev pub stacks : Order → Parts
stacks = over_low_high (codes "stacks") (codes "stk" ∷ []) (pointer_function ∷ stack_function ∷ push_function ∷ pop_function ∷ [])

-- `push(k, v)`, and `pop(k)`
abbrev pub pushes : Value → Value → Invocation
pushes k v = record { fun = 2; args = k ∷ v ∷ [] }

abbrev pub pops : Value → Invocation
pops k = record { fun = 3; args = k ∷ [] }

-- the state after a push of v on stack k, whose pointer is then q; and after a pop
abbrev pub pushed : Value → Value → Value → Store → Store
pushed k q v s = put_at 1 (k ∷ q ∷ []) v (put_at 0 (k ∷ []) q s)

abbrev pub popped : Value → Value → Store → Store
popped k p s = put_at 0 (k ∷ []) p s

-- Cycles of new values

-- a number without formals, by its name
abbrev pub counter : List ℕ → Function
counter name = function name [] (kind.Primitive ty.Integer (expr.Const (int 0))) low

-- `'a() = 'a() + 1`
abbrev pub cycle_of_one : Order → Parts
cycle_of_one = over_low_high (codes "m") [] (counter (codes "a") ∷ function (codes "f") [] (kind.Operation (effect.Change 0 [] (expr.Two op.Add (expr.New 0 []) one) ∷ [])) low ∷ [])

-- `'a() = 'b(); 'b() = 'a()`
abbrev pub cycle_of_two : Order → Parts
cycle_of_two = over_low_high (codes "m") [] (counter (codes "a") ∷ counter (codes "b") ∷ function (codes "f") [] (kind.Operation (effect.Change 0 [] (expr.New 1 []) ∷ effect.Change 1 [] (expr.New 0 []) ∷ [])) low ∷ [])
