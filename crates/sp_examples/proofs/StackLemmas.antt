-- The specification of stacks is well-formed, and what `push` and `pop` do, rank by rank. Cycles of new values aren't
-- well-formed.
use Rattle.std.proofs.Common.{◌≡◌, refl, sym, ◌∙◌, ap, subst, arith, ℕ, zero, suc, ◌<◌, Bool, true, false, List, [], ◌∷◌, Some, None, inl, inr}
use Rattle.std.specs.Prelude.{IsTrue, codes, pos, position, slice_get, unwrap_or}
use Rattle.std.specs.List.{All, Contains}
use Rattle.std.proofs.lemmas.List.Elements.{All-nil}
use Rattle.sp_lattice.specs.Order.{IsLatticeOrder, Order}
use Rattle.sp_values.specs.Arithmetic.{difference, sum}
use Rattle.sp_values.specs.Identity.{same_value}
use Rattle.sp_values.specs.declared.value.Op.TheVariants as op
use Rattle.sp_values.specs.declared.value.Ty.TheVariants as ty
use Rattle.sp_values.specs.declared.value.Value.{Value}
use Rattle.sp_values.specs.declared.value.Value.TheVariants as value
use Rattle.sp_core.specs.declared.expr.Expr.{Expr}
use Rattle.sp_core.specs.declared.expr.Expr.TheVariants as expr
use Rattle.sp_core.specs.declared.function.Answer.TheVariants as answer
use Rattle.sp_core.specs.declared.function.Effect.{Effect}
use Rattle.sp_core.specs.declared.function.Effect.TheVariants as effect
use Rattle.sp_core.specs.declared.function.Function.{Function}
use Rattle.sp_core.specs.declared.function.Kind.TheVariants as kind
use Rattle.sp_core.specs.Effects.{GuardedChange, GuardedResult, changes_in, effect_trees, results_in}
use Rattle.sp_core.specs.Instances.{Filling, machine_of}
use Rattle.sp_core.specs.Machine.{ChangesByRank, IsHeld, IsResult, Machine, Outcome, Run, Step, first_exception, initial_state, value_at}
use Rattle.sp_core.specs.Parts.{signature}
use Rattle.sp_core.specs.Ranks.{HasNoCycle, IsBefore, change_reads}
use Rattle.sp_core.specs.States.{put_at}
use Rattle.sp_core.specs.Tree.{Trees, Const, Var, Two, Look, New, none, more, tree}
use Rattle.sp_core.specs.Typing.{Signature, is_type}
use Rattle.sp_core.specs.Values.{Store, is_true, look, nothing, value_of}
use Rattle.sp_core.specs.WellFormed.{AreFormals, IsExpression, IsFunction, IsInjective, IsKind, IsWellFormed}
use Rattle.sp_core.proofs.RankLemmas.{no_cycle_by, no_new_no_cycle}
use Rattle.sp_core.proofs.TreeLemmas.{effect_lemmas, tree_lemmas}
use Rattle.sp_examples.specs.Common.{function, int, low}
use Rattle.sp_examples.specs.Stacks.{cycle_of_one, cycle_of_two, index_formal, is_empty, one, pointer_function, pop_function, popped, pops, push_function, pushed, pushes, stack_formal, stack_function, stacks}
use Rattle.sp_examples.specs.Theorems.{two_pushed}
use Rattle.sp_examples.proofs.NameLemmas.{AreDifferent-by, some_same}
use Rattle.sp_examples.proofs.Parts.{All-one, All-two, function_fine, low_fine, over_fine}
use Rattle.sp_examples.proofs.PlainChanges.{Puts, contains_none, one_case, one_change, plain, put_other, put_same, two_cases}

-- The effects, as the definitions see them

abbrev first : Trees
first = more (Var 0) none

-- `'ptr(s) = ptr(s) + 1`, `'stack(s, 'ptr(s)) = v` and `'ptr(s) = ptr(s) - 1`
abbrev up : GuardedChange
up = plain 0 first (Two op.Add (Look 0 first) (Const (int 1)))

abbrev write : GuardedChange
write = plain 1 (more (Var 0) (more (New 0 first) none)) (Var 1)

abbrev down : GuardedChange
down = plain 0 first (Two op.Sub (Look 0 first) (Const (int 1)))

-- `r = stack(s, ptr(s))`
abbrev top : GuardedResult
top = record { guards = []; value = Look 1 (more (Var 0) (more (Look 0 first) none)) }

push_changes : changes_in (effect_trees push_function.kind) ≡ up ∷ write ∷ []
push_changes = simp (effect_lemmas, tree_lemmas) refl

pop_changes : changes_in (effect_trees pop_function.kind) ≡ down ∷ []
pop_changes = simp (effect_lemmas, tree_lemmas) refl

pop_results : results_in (effect_trees pop_function.kind) ≡ top ∷ []
pop_results = simp (effect_lemmas, tree_lemmas) refl

-- `ptr` is before `stack`, and nothing else
pointer_first : (h g : ℕ) → IsBefore (up ∷ write ∷ []) h g → h < g
pointer_first h g b = elim (two_cases up write b.0 b.1.of) [
  | inl e ↦ absurd (contains_none h (subst (λ a. Contains (change_reads a) h) e b.1.reads))
  | inr e ↦
      let there : 1 ≡ g = ap (λ (a : GuardedChange). a.fun) (sym e) ∙ b.1.changes in
      let read : h ≡ 0 = one_case 0 h (subst (λ a. Contains (change_reads a) h) e b.1.reads) in
      omega (arith, there, read)
]

-- Well-formed

module _ (o : Order) (two : o.count ≡ 2) where
  abbrev sg : Signature
  sg = signature (stacks o)

  stack_formals : AreFormals sg (stack_formal ∷ [])
  stack_formals = record { few = omega arith; types = All-one (λ t. IsTrue (is_type sg t)) (ty.Member 0) refl }

  two_formals : (name : List ℕ) → AreFormals sg (stack_formal ∷ record { name = name; ty = ty.Integer } ∷ [])
  two_formals name = record { few = omega arith; types = All-two (λ t. IsTrue (is_type sg t)) (ty.Member 0) ty.Integer refl refl }

  pointer_fine : IsFunction sg 0 pointer_function
  pointer_fine =
      function_fine sg 0 false (codes "ptr") (stack_formal ∷ []) pointer_function.kind low stack_formals
      (record {
        type = refl;
        expression = simp tree_lemmas (record { typed = refl; few_nodes = omega arith; few_quantifiers = omega arith; no_new = tt });
        reads_nothing = simp tree_lemmas tt;
      })
      (simp tree_lemmas (omega arith)) (low_fine sg two (ty.Member 0 ∷ []))

  stack_fine : IsFunction sg 1 stack_function
  stack_fine =
      function_fine sg 1 false (codes "stack") (stack_formal ∷ index_formal ∷ []) stack_function.kind low (two_formals (codes "i"))
      (record {
        type = refl;
        expression = simp tree_lemmas (record { typed = refl; few_nodes = omega arith; few_quantifiers = omega arith; no_new = tt });
        reads_nothing = simp tree_lemmas tt;
      })
      (simp tree_lemmas (omega arith)) (low_fine sg two (ty.Member 0 ∷ ty.Integer ∷ []))

  push_kind : IsKind sg (ty.Member 0 ∷ ty.Integer ∷ []) 2 push_function.kind
  push_kind = simp (effect_lemmas, tree_lemmas) (record {
    effects = record {
      effects = (
        (
          pointer_function,
          ty.Integer,
          refl,
          refl,
          (record { typed = refl; few_nodes = omega arith; few_quantifiers = omega arith }, tt),
          record { typed = (ty.Integer, (refl, refl), (pointer_function, refl, refl, (refl, tt)), refl); few_nodes = omega arith; few_quantifiers = omega arith },
        ),
        (
          (
            stack_function,
            ty.Integer,
            refl,
            refl,
            (
              record { typed = refl; few_nodes = omega arith; few_quantifiers = omega arith },
              (record { typed = (pointer_function, refl, refl, (refl, tt)); few_nodes = omega arith; few_quantifiers = omega arith }, tt),
            ),
            record { typed = refl; few_nodes = omega arith; few_quantifiers = omega arith },
          ),
          tt,
        ),
      );
      few_bound = omega arith;
      few_changes = omega arith;
      injective = All-two (IsInjective 2) up write (λ j l. absurd (omega (arith, l))) (λ j l. absurd (omega (arith, l)));
      no_cycle = no_cycle_by (up ∷ write ∷ []) (λ g. g) pointer_first;
    };
    no_result = (0, 0, refl, refl, (0, 0, refl, refl, refl));
  })

  push_fine : IsFunction sg 2 push_function
  push_fine = function_fine sg 2 true (codes "push") (stack_formal ∷ record { name = codes "v"; ty = ty.Integer } ∷ []) push_function.kind low (two_formals (codes "v")) push_kind (simp (effect_lemmas, tree_lemmas) (omega arith)) (low_fine sg two (ty.Member 0 ∷ ty.Integer ∷ []))

  pop_kind : IsKind sg (ty.Member 0 ∷ []) 3 pop_function.kind
  pop_kind = simp (effect_lemmas, tree_lemmas) (record {
    type = refl;
    effects = record {
      effects = (
        (ty.Integer, refl, record { typed = (stack_function, refl, refl, (refl, ((pointer_function, refl, refl, (refl, tt)), tt))); few_nodes = omega arith; few_quantifiers = omega arith }),
        (
          (
            pointer_function,
            ty.Integer,
            refl,
            refl,
            (record { typed = refl; few_nodes = omega arith; few_quantifiers = omega arith }, tt),
            record { typed = (ty.Integer, (refl, refl), (pointer_function, refl, refl, (refl, tt)), refl); few_nodes = omega arith; few_quantifiers = omega arith },
          ),
          tt,
        ),
      );
      few_bound = omega arith;
      few_changes = omega arith;
      injective = All-one (IsInjective 1) down (λ j l. absurd (omega (arith, l)));
      no_cycle = no_new_no_cycle (down ∷ []) (All-one (λ a. change_reads a ≡ []) down refl);
    };
    one_result = (1, 0, refl, refl, (0, 0, refl, refl, refl));
  })

  empty_fine : IsExpression sg (ty.Member 0 ∷ []) (tree is_empty) ty.Boolean
  empty_fine = simp tree_lemmas (record {
    typed = (ty.Integer, refl, (pointer_function, refl, refl, (refl, tt)), refl);
    few_nodes = omega arith;
    few_quantifiers = omega arith;
    no_new = ((tt, (tt, tt)), tt);
  })

  pop_fine : IsFunction sg 3 pop_function
  pop_fine = record {
    formals = stack_formals;
    few_exceptions = omega arith;
    exception_names = AreDifferent-by (codes "empty" ∷ []) refl;
    exceptions = All-one (λ e. IsExpression sg (ty.Member 0 ∷ []) (tree e.1) ty.Boolean) (codes "empty", is_empty) empty_fine;
    kind = pop_kind;
    level = low_fine sg two (ty.Member 0 ∷ []);
    few_nodes = simp (effect_lemmas, tree_lemmas) (omega arith);
  }

  functions_fine : (g : ℕ) (f : Function) → slice_get (pointer_function ∷ stack_function ∷ push_function ∷ pop_function ∷ []) g ≡ Some f → IsFunction sg g f
  functions_fine zero f e = subst (IsFunction sg 0) (some_same e) pointer_fine
  functions_fine (suc zero) f e = subst (IsFunction sg 1) (some_same e) stack_fine
  functions_fine (suc (suc zero)) f e = subst (IsFunction sg 2) (some_same e) push_fine
  functions_fine (suc (suc (suc zero))) f e = subst (IsFunction sg 3) (some_same e) pop_fine
  functions_fine (suc (suc (suc (suc g)))) f e = cc

  pub stacks_well_formed : IsLatticeOrder o → IsWellFormed (stacks o)
  stacks_well_formed lattice = over_fine (codes "stacks") (codes "stk" ∷ []) (pointer_function ∷ stack_function ∷ push_function ∷ pop_function ∷ []) o lattice two refl (omega arith) (omega arith) functions_fine

-- Steps

-- the state after 5 was pushed
abbrev one_pushed : Value → Store
one_pushed k = pushed k (int 1) (int 5) initial_state

number : Value → ℕ
number (value.Int (pos n)) = n
number v = 0

-- places of a stack at different numbers
different : (k : Value) → (◌≡◌ {A = ℕ} 1 1) × (◌≡◌ {A = List Value} (k ∷ int 2 ∷ []) (k ∷ int 1 ∷ [])) → ⊥
unfolding number
different k e =
    let same : int 2 ≡ int 1 = cc in
    let n : 2 ≡ 1 = ap number same in
    omega (arith, n)

-- the first of one test that fails
position_none : {A : Type 0} (f : A → Bool) (x : A) → f x ≡ false → position f (x ∷ []) ≡ None
position_none f x e = rw e refl

position_first : {A : Type 0} (f : A → Bool) (x : A) → f x ≡ true → position f (x ∷ []) ≡ Some 0
position_first f x e = rw e refl

module _ (o : Order) (i : Filling) where
  abbrev m : Machine
  m = machine_of (stacks o) i

  -- what an entry gives
  pointer_put : (k q : Value) (s : Store) → look m.world m.functions (put_at 0 (k ∷ []) q s) 0 (k ∷ []) ≡ q
  pointer_put k q s = ap (λ x. unwrap_or x (value_of m.world nothing nothing (k ∷ []) (tree (expr.Const (int 0))))) (put_same 0 (k ∷ []) q s)

  stack_put : (k q v : Value) (s : Store) → look m.world m.functions (put_at 1 (k ∷ q ∷ []) v s) 1 (k ∷ q ∷ []) ≡ v
  stack_put k q v s = ap (λ x. unwrap_or x (value_of m.world nothing nothing (k ∷ q ∷ []) (tree (expr.Const value.Unknown)))) (put_same 1 (k ∷ q ∷ []) v s)

  -- `push`: the pointer, of rank 0, and then the value at the new pointer, of rank 1
  push_step : (s : Store) (k v p q : Value) → look m.world m.functions s 0 (k ∷ []) ≡ p → sum p (int 1) ≡ q → Step m s (pushes k v) answer.Done (pushed k q v s)
  push_step s k v p q e a = (push_function, record { function = refl; outcome = (made, refl) })
    where
      counted : Puts m s s (pushes k v) 0 first (Two op.Add (Look 0 first) (Const (int 1))) (k ∷ []) q
      counted = record { at = refl; gives = ap (λ p. sum p (int 1)) e ∙ a }

      written : Puts m s (put_at 0 (k ∷ []) q s) (pushes k v) 1 (more (Var 0) (more (New 0 first) none)) (Var 1) (k ∷ q ∷ []) v
      written = record { at = ap (λ x. k ∷ x ∷ []) (pointer_put k q s); gives = refl }

      made : ChangesByRank m s (pushes k v) (changes_in (effect_trees push_function.kind)) (pushed k q v s)
      made = subst (λ as'. ChangesByRank m s (pushes k v) as' (pushed k q v s)) (sym push_changes) (
        put_at 0 (k ∷ []) q s,
        (s, refl, one_change m s s (pushes k v) 0 first (Two op.Add (Look 0 first) (Const (int 1))) (k ∷ []) q counted),
        one_change m s (put_at 0 (k ∷ []) q s) (pushes k v) 1 (more (Var 0) (more (New 0 first) none)) (Var 1) (k ∷ q ∷ []) v written,
      )

  -- whether the stack is empty
  empty_value : (s : Store) (k p : Value) → look m.world m.functions s 0 (k ∷ []) ≡ p → is_true (value_at m s (k ∷ []) (tree is_empty)) ≡ same_value p (int 0)
  empty_value s k p e = shown ∙ ap (λ p. same_value p (int 0)) e
    where
      shown : is_true (value_at m s (k ∷ []) (tree is_empty)) ≡ same_value (look m.world m.functions s 0 (k ∷ [])) (int 0)
      shown = simp tree_lemmas refl

  -- `pop` gives what stands at the pointer
  pop_step : (s : Store) (k p q x : Value) → look m.world m.functions s 0 (k ∷ []) ≡ p → same_value p (int 0) ≡ false → difference p (int 1) ≡ q → look m.world m.functions s 1 (k ∷ p ∷ []) ≡ x → Step m s (pops k) (answer.Value x) (popped k q s)
  pop_step s k p q x e some a v = (
    pop_function,
    record { function = refl; outcome = subst (λ n. Outcome m s (pops k) pop_function n (answer.Value x) (popped k q s)) (sym plain_pop) (made, (x, result, refl)) },
  )
    where
      plain_pop : first_exception m s (pops k) pop_function ≡ None
      plain_pop = position_none {A = List ℕ × Expr} (λ c. is_true (value_at m s (k ∷ []) (tree c.1))) (codes "empty", is_empty) (empty_value s k p e ∙ some)

      counted : Puts m s s (pops k) 0 first (Two op.Sub (Look 0 first) (Const (int 1))) (k ∷ []) q
      counted = record { at = refl; gives = ap (λ p. difference p (int 1)) e ∙ a }

      made : ChangesByRank m s (pops k) (changes_in (effect_trees pop_function.kind)) (popped k q s)
      made = subst (λ as'. ChangesByRank m s (pops k) as' (popped k q s)) (sym pop_changes) (s, refl, one_change m s s (pops k) 0 first (Two op.Sub (Look 0 first) (Const (int 1))) (k ∷ []) q counted)

      only : (j : ℕ) (r : GuardedResult) → slice_get (top ∷ []) j ≡ Some r → All (IsHeld m s (k ∷ [])) r.guards → j ≡ 0
      only zero r t g = refl
      only (suc j) r t g = cc

      result : IsResult m s (popped k q s) (pops k) (results_in (effect_trees pop_function.kind)) x
      result = subst (λ rs. IsResult m s (popped k q s) (pops k) rs x) (sym pop_results) (0, top, record { there = refl; held = All-nil (IsHeld m s (k ∷ [])); only = only; value = sym (ap (λ p. look m.world m.functions s 1 (k ∷ p ∷ [])) e ∙ v) })

  -- an empty stack refuses
  empty_step : (s : Store) (k p : Value) → look m.world m.functions s 0 (k ∷ []) ≡ p → same_value p (int 0) ≡ true → Step m s (pops k) (answer.Exception 0) s
  empty_step s k p e none_left = (
    pop_function,
    record { function = refl; outcome = subst (λ n. Outcome m s (pops k) pop_function n (answer.Exception 0) s) (sym refused) (refl, refl) },
  )
    where
      refused : first_exception m s (pops k) pop_function ≡ Some 0
      refused = position_first {A = List ℕ × Expr} (λ c. is_true (value_at m s (k ∷ []) (tree c.1))) (codes "empty", is_empty) (empty_value s k p e ∙ none_left)

  -- after a push the pointer is the new one, and the value stands there
  pushed_pointer : (k q v : Value) (s : Store) → look m.world m.functions (pushed k q v s) 0 (k ∷ []) ≡ q
  pushed_pointer k q v s = pointer_put k q s

  pub push_then_pop : (s : Store) (k v p q : Value) → look m.world m.functions s 0 (k ∷ []) ≡ p → sum p (int 1) ≡ q → difference q (int 1) ≡ p → same_value q (int 0) ≡ false
      → Run m s (pushes k v ∷ pops k ∷ []) (answer.Done ∷ answer.Value v ∷ []) (popped k p (pushed k q v s))
  push_then_pop s k v p q e a b n = (
    pushed k q v s,
    push_step s k v p q e a,
    (popped k p (pushed k q v s), pop_step (pushed k q v s) k q p v (pushed_pointer k q v s) n b (stack_put k q v (put_at 0 (k ∷ []) q s)), refl),
  )

  -- 5 and 6 are pushed, and thrice is popped
  pub five_six : (k : Value) → Run m initial_state (pushes k (int 5) ∷ pushes k (int 6) ∷ pops k ∷ pops k ∷ pops k ∷ []) (answer.Done ∷ answer.Done ∷ answer.Value (int 6) ∷ answer.Value (int 5) ∷ answer.Exception 0 ∷ []) (popped k (int 0) (popped k (int 1) (two_pushed k)))
  five_six k = (
    one_pushed k,
    push_step initial_state k (int 5) (int 0) (int 1) (simp tree_lemmas refl) refl,
    (
      two_pushed k,
      push_step (one_pushed k) k (int 6) (int 1) (int 2) (pushed_pointer k (int 1) (int 5) initial_state) refl,
      (
        popped k (int 1) (two_pushed k),
        pop_step (two_pushed k) k (int 2) (int 1) (int 6) (pushed_pointer k (int 2) (int 6) (one_pushed k)) refl refl (stack_put k (int 2) (int 6) (put_at 0 (k ∷ []) (int 2) (one_pushed k))),
        (
          popped k (int 0) (popped k (int 1) (two_pushed k)),
          pop_step (popped k (int 1) (two_pushed k)) k (int 1) (int 0) (int 5) (pointer_put k (int 1) (two_pushed k)) refl refl below,
          (popped k (int 0) (popped k (int 1) (two_pushed k)), empty_step (popped k (int 0) (popped k (int 1) (two_pushed k))) k (int 0) (pointer_put k (int 0) (popped k (int 1) (two_pushed k))) refl, refl),
        ),
      ),
    ),
  )
    where
      below : look m.world m.functions (popped k (int 1) (two_pushed k)) 1 (k ∷ int 1 ∷ []) ≡ int 5
      below =
          ap (λ x. unwrap_or x (value_of m.world nothing nothing (k ∷ int 1 ∷ []) (tree (expr.Const value.Unknown))))
          (put_other 1 (k ∷ int 2 ∷ []) (int 6) (put_at 0 (k ∷ []) (int 2) (one_pushed k)) 1 (k ∷ int 1 ∷ []) (different k) ∙ put_same 1 (k ∷ int 1 ∷ []) (int 5) (put_at 0 (k ∷ []) (int 1) initial_state))

-- Cycles

-- a function whose effects have these changes has a cycle
abbrev self : GuardedChange
self = plain 0 none (Two op.Add (New 0 none) (Const (int 1)))

abbrev one_effects : List Effect
one_effects = effect.Change 0 [] (expr.Two op.Add (expr.New 0 []) one) ∷ []

pub one_refused : (o : Order) → IsWellFormed (cycle_of_one o) → ⊥
one_refused o h = own 0 0 (0, refl, (self, record { of = (0, omega arith, refl); changes = refl; reads = (0, omega arith, refl) }))
  where
    changes : changes_in (effect_trees (kind.Operation one_effects)) ≡ self ∷ []
    changes = simp (effect_lemmas, tree_lemmas) refl

    own : HasNoCycle (self ∷ [])
    own = subst HasNoCycle changes (h.functions 1 (function (codes "f") [] (kind.Operation one_effects) low) refl).kind.effects.no_cycle

abbrev to_b : GuardedChange
to_b = plain 0 none (New 1 none)

abbrev to_a : GuardedChange
to_a = plain 1 none (New 0 none)

abbrev two_effects : List Effect
two_effects = effect.Change 0 [] (expr.New 1 []) ∷ effect.Change 1 [] (expr.New 0 []) ∷ []

-- a is before b, and b before a
pub two_refused : (o : Order) → IsWellFormed (cycle_of_two o) → ⊥
two_refused o h =
    own 1 0 (
      1,
      (0, refl, (to_a, record { of = (1, omega arith, refl); changes = refl; reads = (0, omega arith, refl) })),
      (to_b, record { of = (0, omega arith, refl); changes = refl; reads = (0, omega arith, refl) }),
    )
  where
    changes : changes_in (effect_trees (kind.Operation two_effects)) ≡ to_b ∷ to_a ∷ []
    changes = simp (effect_lemmas, tree_lemmas) refl

    own : HasNoCycle (to_b ∷ to_a ∷ [])
    own = subst HasNoCycle changes (h.functions 2 (function (codes "f") [] (kind.Operation two_effects) low) refl).kind.effects.no_cycle
