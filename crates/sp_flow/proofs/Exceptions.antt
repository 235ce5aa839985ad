-- The first exception that is TRUE: where there is none, each is FALSE; and alike states have the same.
use Rattle.std.proofs.Common.{◌≡◌, refl, sym, ◌∙◌, ap, arith, ℕ, suc, ◌+◌, ◌<◌, Bool, true, false, not, List, [], ◌∷◌, length, map, Some, None, nat_lt}
use Rattle.std.specs.Prelude.{if◌then◌else◌, cond, position}
use Rattle.std.specs.List.{All}
use Rattle.std.proofs.lemmas.List.Elements.{All-cons, All-nil, All-head, All-tail}
use Rattle.std.proofs.lemmas.List.Recursion.{is_position_or_len}
use Rattle.sp_values.specs.declared.value.Ty.TheVariants as ty
use Rattle.sp_values.specs.declared.place.Invocation.{Invocation}
use Rattle.sp_core.specs.declared.expr.Expr.{Expr}
use Rattle.sp_core.specs.declared.function.Function.{Function}
use Rattle.sp_core.specs.Instances.{Filling, IsInstance, machine_of}
use Rattle.sp_core.specs.Machine.{IsHeld, IsInvocationOf, IsState, Machine, first_exception, types_of, value_at}
use Rattle.sp_core.specs.Parts.{Parts, signature}
use Rattle.sp_core.specs.Security.{Alike}
use Rattle.sp_core.specs.Tree.{Not, tree}
use Rattle.sp_core.specs.Values.{Store, is_true}
use Rattle.sp_core.specs.WellFormed.{IsExpression, IsWellFormed}
use Rattle.sp_flow.specs.Flows.{FlowsUpward, IsUnder, TestsUnder, call_level, denials}
use Rattle.sp_flow.proofs.Calls.{call_is_level, own_same}

-- the index of the first that passes, or how many there are
abbrev first_at : {A : Type 0} → (A → Bool) → List A → ℕ
first_at q [] = 0
first_at q (x ∷ xs) = if q x then 0 else suc (first_at q xs)

position_first : {A : Type 0} (q : A → Bool) (xs : List A) → position q xs ≡ cond (nat_lt (first_at q xs) (length xs)) (Some (first_at q xs)) None
position_first {A} q xs =
    let e = is_position_or_len (first_at q) q refl (λ x xs. one (q x) (first_at q xs)) xs in
    λ i. cond (nat_lt (sym e i) (length xs)) (Some (sym e i)) None
  where
    one : (b : Bool) (n : ℕ) → (if b then 0 else suc n) ≡ cond b 0 (1 + n)
    one true n = refl
    one false n = omega arith

none_within : {A : Type 0} (q : A → Bool) (xs : List A) → position q xs ≡ None → first_at q xs < length xs → ⊥
none_within q xs e = by (nat_lt (first_at q xs) (length xs)) refl (sym (position_first q xs) ∙ e)
  where
    by : (b : Bool) → nat_lt (first_at q xs) (length xs) ≡ b → cond b (Some (first_at q xs)) None ≡ None → first_at q xs < length xs → ⊥
    by true t f = cc
    by false t f = grind (arith, t)

module _ (m : Machine) (s : Store) (inv : Invocation) where
  abbrev passes : List ℕ × Expr → Bool
  passes e = is_true (value_at m s inv.args (tree e.1))

  none_denied : (es : List (List ℕ × Expr)) → (first_at passes es < length es → ⊥) → All (IsHeld m s inv.args) (map (λ e. Not (tree e.1)) es)
  none_denied [] n = All-nil (IsHeld m s inv.args)
  none_denied (e ∷ es) n = by (passes e) refl n (none_denied es)
    where
      by : (b : Bool) → passes e ≡ b → ((if b then 0 else suc (first_at passes es)) < suc (length es) → ⊥) → ((first_at passes es < length es → ⊥) → All (IsHeld m s inv.args) (map (λ e. Not (tree e.1)) es)) → All (IsHeld m s inv.args) (Not (tree e.1) ∷ map (λ e. Not (tree e.1)) es)
      by true q n next = absurd (n (omega arith))
      by false q n next = All-cons (IsHeld m s inv.args) (Not (tree e.1)) (map (λ e. Not (tree e.1)) es) (ap not q) (next (λ l. n (omega (arith, l))))

  -- where no exception is TRUE, each denial is
  pub denied : (f : Function) → first_exception m s inv f ≡ None → All (IsHeld m s inv.args) (denials f)
  denied f e = none_denied f.exceptions (none_within passes f.exceptions e)

module _ (p : Parts) (i : Filling) (wf : IsWellFormed p) (inst : IsInstance p i) (flow : FlowsUpward (machine_of p i)) (inv : Invocation) (f : Function) (call : IsInvocationOf (machine_of p i) inv f)
    (l : ℕ) (is_level : l < p.lattice.count) (low : IsUnder (machine_of p i) l inv.fun inv.args) (s t : Store) (state : IsState (machine_of p i) s) (alike : Alike (machine_of p i) l s t)
  where
    abbrev m : Machine
    m = machine_of p i

    first_same : (es : List (List ℕ × Expr)) → All (λ e. IsExpression (signature p) (types_of f.formals) (tree e.1) ty.Boolean) es → TestsUnder m s inv.args (call_level m inv) (map (λ e. Not (tree e.1)) es) → first_at (passes m s inv) es ≡ first_at (passes m t inv) es
    first_same [] typed tests = refl
    first_same (e ∷ es) typed tests =
        let own = All-head (λ e. IsExpression (signature p) (types_of f.formals) (tree e.1) ty.Boolean) e es typed in
        let same = own_same p i wf inst inv f call flow.derivations l is_level s t state alike (call_level m inv) (call_is_level p i wf inst inv f call) low (tree e.1) (record { typed = own.typed; no_new = own.no_new }) tests.0 in
        by (passes m s inv e) refl (λ no. first_same es (All-tail (λ e. IsExpression (signature p) (types_of f.formals) (tree e.1) ty.Boolean) e es typed) (tests.1 (ap not no)))
        ∙ ap (λ v. if is_true v then 0 else suc (first_at (passes m t inv) es)) same
      where
        by : (b : Bool) → passes m s inv e ≡ b → (passes m s inv e ≡ false → first_at (passes m s inv) es ≡ first_at (passes m t inv) es) → (if b then 0 else suc (first_at (passes m s inv) es)) ≡ (if b then 0 else suc (first_at (passes m t inv) es))
        by true q next = refl
        by false q next = ap suc (next q)

    -- alike states have the same first exception
    pub exceptions_same : first_exception m s inv f ≡ first_exception m t inv f
    exceptions_same =
        let e = first_same f.exceptions (wf.functions inv.fun f call.function).exceptions (flow.exceptions s inv f state call) in
        position_first (passes m s inv) f.exceptions ∙ ap (λ n. cond (nat_lt n (length f.exceptions)) (Some n) None) e ∙ sym (position_first (passes m t inv) f.exceptions)
