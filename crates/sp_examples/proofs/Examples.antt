-- Worked examples of the definitions, each a small theorem: what a reader would compute by hand, and the definitions give.
use Rattle.std.proofs.Common.{◌≡◌, refl, sym, ◌∙◌, ap, subst, arith, ℕ, zero, suc, Bool, true, false, List, [], ◌∷◌, Some, ◌⊎◌, inl, inr}
use Rattle.std.specs.Prelude.{pos, negsuc, if◌then◌else◌, ◌==◌, ◌||◌, codes, slice_get}
use Rattle.std.specs.List.{Contains}
use Rattle.std.proofs.lemmas.List.Elements.{All-cons, All-nil}
use Rattle.sp_values.specs.declared.place.Invocation.{Invocation}
use Rattle.sp_values.specs.declared.value.Op.TheVariants as op
use Rattle.sp_values.specs.declared.value.Ty.TheVariants as ty
use Rattle.sp_values.specs.declared.value.Value.{Value}
use Rattle.sp_values.specs.declared.value.Value.TheVariants as value
use Rattle.sp_values.specs.Arithmetic.{at_most, less_than, product, sum}
use Rattle.sp_values.specs.Identity.{same_value}
use Rattle.sp_core.specs.declared.expr.Expr.{Expr}
use Rattle.sp_core.specs.declared.expr.Expr.TheVariants as expr
use Rattle.sp_core.specs.declared.function.Effect.{Effect}
use Rattle.sp_core.specs.declared.function.Effect.TheVariants as effect
use Rattle.sp_core.specs.declared.function.Formal.{Formal}
use Rattle.sp_core.specs.declared.function.Function.{Function}
use Rattle.sp_core.specs.declared.function.Kind.{Kind}
use Rattle.sp_core.specs.declared.function.Kind.TheVariants as kind
use Rattle.sp_core.specs.declared.function.Answer.{Answer}
use Rattle.sp_core.specs.declared.function.Answer.TheVariants as answer
use Rattle.sp_core.specs.Effects.{GuardedChange, changes_in, effect_trees}
use Rattle.sp_core.specs.Machine.{AreBindings, Changes, ChangesByRank, IsHeld, IsTrueChange, Machine, Run, Step, StepOf, given, initial_state, target}
use Rattle.sp_core.specs.Security.{Alike, IsLow, purge, seen}
use Rattle.sp_core.specs.States.{put_at}
use Rattle.sp_core.specs.Tree.{Tree, Const, Var, Two, Look, Every, none, more}
use Rattle.sp_core.specs.Values.{Reads, Store, World, look, value_of}
use Rattle.sp_examples.specs.Common.{int}
use Rattle.sp_examples.proofs.PlainChanges.{Puts, contains_none, one_case, plain, put_other, two_cases, two_changes}
use Rattle.sp_core.proofs.TreeLemmas.{tree_lemmas, effect_lemmas}

-- Values

-- the greatest number
abbrev greatest : Value
greatest = value.Int (pos 9223372036854775807)

-- the greatest number and 1 are `?`, as is the product of two large numbers; a sum in range is a number
sum_out_of_range : sum greatest (value.Int (pos 1)) ≡ value.Unknown
sum_out_of_range = refl

product_out_of_range : product greatest (value.Int (negsuc 1)) ≡ value.Unknown
product_out_of_range = refl

sum_in_range : sum greatest (value.Int (negsuc 0)) ≡ value.Int (pos 9223372036854775806)
sum_in_range = refl

-- `? <= 0` is FALSE, and so is `0 < ?`; `? = ?` is TRUE
unknown_is_at_most_nothing : at_most value.Unknown (value.Int (pos 0)) ≡ false
unknown_is_at_most_nothing = refl

nothing_is_less_than_unknown : less_than (value.Int (pos 0)) value.Unknown ≡ false
nothing_is_less_than_unknown = refl

unknown_is_itself : same_value value.Unknown value.Unknown ≡ true
unknown_is_itself = refl

-- a world with one level, without parameters, and with n members of each declared type
abbrev world : ℕ → World
world n = record { below = λ a b. true; join = λ a b. 0; meet = λ a b. 0; param = λ p v. value.Unknown; sizes = record { levels = 1; members = λ k. n } }

-- `max()`, a sum out of range, is `?` as an expression too; and `max() = max()` is TRUE
out_of_range : (old new : Reads) → value_of (world 0) old new [] (Two op.Add (Const greatest) (Const (value.Int (pos 1)))) ≡ value.Unknown
out_of_range old new = refl

-- FORALL over a type without members is TRUE, whatever its part is
quantifier_over_nothing : (old new : Reads) (b : Tree) → value_of (world 0) old new [] (Every 0 (ty.Member 0) b) ≡ value.Truth true
quantifier_over_nothing old new b = refl

-- over two members, `FORALL x: x = first` is FALSE
quantifier_over_two : (old new : Reads) → value_of (world 2) old new [] (Every 0 (ty.Member 0) (Two op.Same (Var 0) (Const (value.Member 0 0)))) ≡ value.Truth false
quantifier_over_two old new = refl

-- Steps

-- a function at the lowest level, without exceptions
abbrev function : List Formal → Kind → Function
function formals k = record { name = codes "f"; visible = true; formals = formals; exceptions = []; kind = k; level = expr.Const (value.Level 0) }

-- an invocation
abbrev call : ℕ → List Value → Invocation
call g v = record { fun = g; args = v }

abbrev truth : Bool → Expr
truth b = expr.Const (value.Truth b)

-- an O-function with two exceptions, both TRUE
abbrev refusing : Machine
refusing = record { world = world 0; functions = record (function [] (kind.Operation [])) { exceptions = (codes "first", truth true) ∷ (codes "second", truth true) ∷ [] } ∷ [] }

-- the first true exception is the answer, and the state stays
first_exception_answers : (s : Store) → Step refusing s (call 0 []) (answer.Exception 0) s
first_exception_answers s = (record (function [] (kind.Operation [])) { exceptions = (codes "first", truth true) ∷ (codes "second", truth true) ∷ [] }, record { function = refl; outcome = simp tree_lemmas (refl, refl) })

-- `a` starts at 1 and `b` at 2; `swap` gives each the other's value
abbrev swap_effects : List Effect
swap_effects = effect.Change 0 [] (expr.Look 1 []) ∷ effect.Change 1 [] (expr.Look 0 []) ∷ []

abbrev swapping : Machine
swapping = record { world = world 0; functions = function [] (kind.Primitive ty.Integer (expr.Const (int 1))) ∷ function [] (kind.Primitive ty.Integer (expr.Const (int 2))) ∷ function [] (kind.Operation swap_effects) ∷ [] }

abbrev swapped : Store
swapped = put_at 0 [] (int 2) (put_at 1 [] (int 1) initial_state)

-- both changes see the old values: after it, `a` is 2 and `b` is 1
swap_step : Step swapping initial_state (call 2 []) answer.Done swapped
swap_step = (
  function [] (kind.Operation swap_effects),
  record {
    function = refl;
    outcome = (subst (λ as'. ChangesByRank swapping initial_state (call 2 []) as' swapped) (sym changes) (initial_state, refl, two_changes swapping initial_state initial_state (call 2 []) 0 none (Look 1 none) [] (int 2) 1 none (Look 0 none) [] (int 1) first second (λ e. omega (arith, e.0))), refl);
  },
)
  where
    changes : changes_in (effect_trees (kind.Operation swap_effects)) ≡ plain 0 none (Look 1 none) ∷ plain 1 none (Look 0 none) ∷ []
    changes = simp (effect_lemmas, tree_lemmas) refl

    first : Puts swapping initial_state initial_state (call 2 []) 0 none (Look 1 none) [] (int 2)
    first = record { at = refl; gives = simp tree_lemmas refl }

    second : Puts swapping initial_state initial_state (call 2 []) 1 none (Look 0 none) [] (int 1)
    second = record { at = refl; gives = simp tree_lemmas refl }

swap_run : Run swapping initial_state (call 2 [] ∷ call 0 [] ∷ call 1 [] ∷ []) (answer.Done ∷ answer.Value (int 2) ∷ answer.Value (int 1) ∷ []) swapped
swap_run = (swapped, swap_step, (swapped, reads 0 (int 1) (int 2) refl refl, (swapped, reads 1 (int 2) (int 1) refl refl, refl)))
  where
    reads : (g : ℕ) (start x : Value) → slice_get swapping.functions g ≡ Some (function [] (kind.Primitive ty.Integer (expr.Const start))) → look swapping.world swapping.functions swapped g [] ≡ x → Step swapping swapped (call g []) (answer.Value x) swapped
    reads g start x f v = (function [] (kind.Primitive ty.Integer (expr.Const start)), record { function = f; outcome = (refl, ap answer.Value (sym v)) })

-- `p` and `q` start TRUE, and `op` gives `g` the value 1 where p() and 2 where q()
abbrev clash_effects : List Effect
clash_effects =
    effect.If (expr.Look 0 []) (effect.Change 2 [] (expr.Const (int 1)) ∷ []) []
    ∷ effect.If (expr.Look 1 []) (effect.Change 2 [] (expr.Const (int 2)) ∷ []) []
    ∷ []

abbrev clashing : Machine
clashing = record {
  world = world 0;
  functions =
      function [] (kind.Primitive ty.Boolean (truth true))
      ∷ function [] (kind.Primitive ty.Boolean (truth true))
      ∷ function [] (kind.Primitive ty.Integer (expr.Const (int 0)))
      ∷ function [] (kind.Operation clash_effects)
      ∷ [];
}

-- its two true changes give one place two values: there is no step
clash_has_no_step : (a : Answer) (t : Store) → Step clashing initial_state (call 3 []) a t → ⊥
clash_has_no_step a t h = let same = some_same h.1.function in let own = subst (StepOf clashing initial_state (call 3 []) a t) (sym same) h.1 in clash own.outcome.0
  where
    guarded : ℕ → ℕ → GuardedChange
    guarded g n = record { vars = []; guards = Look g none ∷ []; fun = 2; args = none; value = Const (int n) }

    some_same : {A : Type 0} {x y : A} → Some x ≡ Some y → x ≡ y
    some_same e = cc

    changes : changes_in (effect_trees (kind.Operation clash_effects)) ≡ guarded 0 1 ∷ guarded 1 2 ∷ []
    changes = simp (effect_lemmas, tree_lemmas) refl

    first : IsTrueChange clashing initial_state (call 3 []) (guarded 0 1 ∷ guarded 1 2 ∷ []) (guarded 0 1) []
    first = record { of = (0, omega arith, refl); bindings = tt; held = All-cons (IsHeld clashing initial_state []) (Look 0 none) [] (simp tree_lemmas refl) (All-nil (IsHeld clashing initial_state [])) }

    second : IsTrueChange clashing initial_state (call 3 []) (guarded 0 1 ∷ guarded 1 2 ∷ []) (guarded 1 2) []
    second = record { of = (1, omega arith, refl); bindings = tt; held = All-cons (IsHeld clashing initial_state []) (Look 1 none) [] (simp tree_lemmas refl) (All-nil (IsHeld clashing initial_state [])) }

    clash : ChangesByRank clashing initial_state (call 3 []) (changes_in (effect_trees (kind.Operation clash_effects))) t → ⊥
    clash c =
        let made : ChangesByRank clashing initial_state (call 3 []) (guarded 0 1 ∷ guarded 1 2 ∷ []) t = subst (λ as'. ChangesByRank clashing initial_state (call 3 []) as' t) changes c in
        let d : Changes clashing initial_state initial_state (call 3 []) (guarded 0 1 ∷ guarded 1 2 ∷ []) t = subst (λ v. Changes clashing initial_state v (call 3 []) (guarded 0 1 ∷ guarded 1 2 ∷ []) t) made.1 made.2 in
        let x : t 2 [] ≡ Some (int 1) = d.named (guarded 0 1) [] first in
        let y : t 2 [] ≡ Some (int 2) = d.named (guarded 1 2) [] second in
        let z : Some (int 1) ≡ Some (int 2) = sym x ∙ y in
        cc

-- `fill(x)` gives each file's `data` the value x
abbrev fill_effects : List Effect
fill_effects = effect.Every 1 (ty.Member 0) (effect.Change 0 (expr.Var 1 ∷ []) (expr.Var 0) ∷ []) ∷ []

abbrev file : Formal
file = record { name = codes "f"; ty = ty.Member 0 }

abbrev number : Formal
number = record { name = codes "x"; ty = ty.Integer }

abbrev filling : ℕ → Machine
filling n = record { world = world n; functions = function (file ∷ []) (kind.Primitive ty.Integer (expr.Const (int 0))) ∷ function (number ∷ []) (kind.Operation fill_effects) ∷ [] }

abbrev fill_change : GuardedChange
fill_change = record { vars = ty.Member 0 ∷ []; guards = []; fun = 0; args = more (Var 1) none; value = Var 0 }

fill_changes : changes_in (effect_trees (kind.Operation fill_effects)) ≡ fill_change ∷ []
fill_changes = simp (effect_lemmas, tree_lemmas) refl

-- without files it changes nothing
fill_nothing : (s : Store) (x : Value) → Step (filling 0) s (call 1 (x ∷ [])) answer.Done s
fill_nothing s x = (
  function (number ∷ []) (kind.Operation fill_effects),
  record {
    function = refl;
    outcome = (
      subst (λ as'. ChangesByRank (filling 0) s (call 1 (x ∷ [])) as' s) (sym fill_changes) (
        s,
        refl,
        record {
          named = λ a cs h. absurd (none_bound a (one_case fill_change a h.of) cs h.bindings);
          others = λ g v n. refl;
        },
      ),
      refl,
    );
  },
)
  where
    by : (cs : List Value) → AreBindings (world 0) (ty.Member 0 ∷ []) cs → ⊥
    by [] b = b
    by (c ∷ cs) b = contains_none c b.0

    none_bound : (a : GuardedChange) → a ≡ fill_change → (cs : List Value) → AreBindings (world 0) a.vars cs → ⊥
    none_bound a e cs b = by cs (subst (λ (c : GuardedChange). AreBindings (world 0) c.vars cs) e b)

-- with two files it gives both the value
abbrev file_value : ℕ → Value
file_value m = value.Member 0 m

abbrev filled : Value → Store → Store
filled x s = put_at 0 (file_value 0 ∷ []) x (put_at 0 (file_value 1 ∷ []) x s)

fill_both : (s : Store) (x : Value) → Step (filling 2) s (call 1 (x ∷ [])) answer.Done (filled x s)
fill_both s x = (
  function (number ∷ []) (kind.Operation fill_effects),
  record {
    function = refl;
    outcome = (
      subst (λ as'. ChangesByRank (filling 2) s (call 1 (x ∷ [])) as' (filled x s)) (sym fill_changes) (
        s,
        refl,
        record {
          named = λ a cs h. named a (one_case fill_change a h.of) cs h.bindings;
          others = λ g v n.
              put_other 0 (file_value 0 ∷ []) x (put_at 0 (file_value 1 ∷ []) x s) g v (λ e. n fill_change (file_value 0 ∷ []) (bound (file_value 0) (0, omega arith, refl)) e.0 e.1)
              ∙ put_other 0 (file_value 1 ∷ []) x s g v (λ e. n fill_change (file_value 1 ∷ []) (bound (file_value 1) (1, omega arith, refl)) e.0 e.1);
        },
      ),
      refl,
    );
  },
)
  where
    bound : (c : Value) → Contains (file_value 0 ∷ file_value 1 ∷ []) c → IsTrueChange (filling 2) s (call 1 (x ∷ [])) (fill_change ∷ []) fill_change (c ∷ [])
    bound c h = record { of = (0, omega arith, refl); bindings = (h, tt); held = λ k d l. absurd (omega (arith, l)) }

    at_file : (c : Value) → (c ≡ file_value 0) ⊎ (c ≡ file_value 1) → filled x s 0 (c ∷ []) ≡ Some x
    at_file c (inl e) = ap (λ d. filled x s 0 (d ∷ [])) e
    at_file c (inr e) = ap (λ d. filled x s 0 (d ∷ [])) e

    by : (cs : List Value) → AreBindings (world 2) (ty.Member 0 ∷ []) cs → filled x s 0 (target (filling 2) s s (call 1 (x ∷ [])) fill_change cs) ≡ Some (given (filling 2) s s (call 1 (x ∷ [])) fill_change cs)
    by [] b = absurd b
    by (c ∷ []) b = at_file c (two_cases (file_value 0) (file_value 1) c b.0)
    by (c ∷ d ∷ cs) b = absurd b.1

    named : (a : GuardedChange) → a ≡ fill_change → (cs : List Value) → AreBindings (world 2) a.vars cs → filled x s a.fun (target (filling 2) s s (call 1 (x ∷ [])) a cs) ≡ Some (given (filling 2) s s (call 1 (x ∷ [])) a cs)
    named a e cs b = subst (λ (c : GuardedChange). AreBindings (world 2) c.vars cs → filled x s c.fun (target (filling 2) s s (call 1 (x ∷ [])) c cs) ≡ Some (given (filling 2) s s (call 1 (x ∷ [])) c cs)) (sym e) (by cs) b

-- Levels

-- four levels: low 0 is below a 1 and b 2, and these are below high 3
abbrev diamond : World
diamond = record {
  below = λ x y. (x == y) || ((x == 0) || (y == 3));
  join = λ x y. if x == y then x else (if x == 0 then y else (if y == 0 then x else 3));
  meet = λ x y. if x == y then x else (if x == 3 then y else (if y == 3 then x else 0));
  param = λ p v. value.Unknown;
  sizes = record { levels = 4; members = λ k. 0 };
}

abbrev at_level : ℕ → Kind → Function
at_level l k = record (function [] k) { level = expr.Const (value.Level l) }

-- `va` at a and `vb` at b, `seta` at a and `setb` at b, and `j` at low, which says whether the bound of a and b is high
abbrev levelled : Machine
levelled = record {
  world = diamond;
  functions =
      at_level 1 (kind.Primitive ty.Integer (expr.Const (int 0)))
      ∷ at_level 2 (kind.Primitive ty.Integer (expr.Const (int 0)))
      ∷ at_level 1 (kind.Operation (effect.Change 0 [] (expr.Const (int 1)) ∷ []))
      ∷ at_level 2 (kind.Operation (effect.Change 1 [] (expr.Const (int 1)) ∷ []))
      ∷ at_level 0 (kind.Derived ty.Boolean (expr.Two op.Same (expr.Two op.Lub (expr.Const (value.Level 1)) (expr.Const (value.Level 2))) (expr.Const (value.Level 3))))
      ∷ at_level 3 (kind.Operation [])
      ∷ [];
}

-- purging at a keeps what is at a and at low; what is at b or at high goes
purge_at_a : purge levelled 1 (call 2 [] ∷ call 3 [] ∷ call 0 [] ∷ call 1 [] ∷ call 4 [] ∷ call 5 [] ∷ []) ≡ call 2 [] ∷ call 0 [] ∷ call 4 [] ∷ []
purge_at_a = simp tree_lemmas refl

-- the answers that are seen at a are those at the same positions
seen_at_a : seen levelled 1 (call 2 [] ∷ call 3 [] ∷ call 0 [] ∷ call 1 [] ∷ []) (answer.Done ∷ answer.Done ∷ answer.Value (int 1) ∷ answer.Value (int 1) ∷ []) ≡ answer.Done ∷ answer.Value (int 1) ∷ []
seen_at_a = simp tree_lemmas refl

-- the least upper bound of a and b is high
bound_of_a_and_b : (s : Store) → look levelled.world levelled.functions s 4 [] ≡ value.Truth true
bound_of_a_and_b s = simp tree_lemmas refl

-- two states that differ at `vb` alone are alike at a, since b isn't below a
alike_at_a : (x : Value) → Alike levelled 1 (put_at 1 [] x initial_state) initial_state
alike_at_a x = record { same = same }
  where
    same : (g : ℕ) (v : List Value) → IsLow levelled 1 g v → look levelled.world levelled.functions (put_at 1 [] x initial_state) g v ≡ look levelled.world levelled.functions initial_state g v
    same zero v h = refl
    same (suc zero) v h = let e : false ≡ true = simp tree_lemmas at h.below in cc
    same (suc (suc zero)) v h = refl
    same (suc (suc (suc zero))) v h = refl
    same (suc (suc (suc (suc zero)))) v h = simp tree_lemmas refl
    same (suc (suc (suc (suc (suc zero))))) v h = refl
    same (suc (suc (suc (suc (suc (suc g)))))) v h = refl

-- two states that differ at `va` aren't
not_alike_at_a : Alike levelled 1 (put_at 0 [] (int 5) initial_state) initial_state → ⊥
not_alike_at_a h = let e : int 5 ≡ int 0 = simp tree_lemmas at (h.same 0 [] low) in cc
  where
    low : IsLow levelled 1 0 []
    low = record { place = (at_level 1 (kind.Primitive ty.Integer (expr.Const (int 0))), ty.Integer, expr.Const (int 0), record { function = refl; primitive = refl; arguments = refl }); below = simp tree_lemmas refl }
