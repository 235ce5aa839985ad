-- Where the flow formulas hold in an admissible instance, information flows upward alone there.
use Rattle.std.proofs.Common.{◌≡◌, refl, sym, ◌∙◌, ap, subst, arith, ℕ, zero, suc, ◌+◌, ◌≤◌, true, List, [], ◌∷◌, ◌++◌, length, map, drop, length-append, append_assoc, Some}
use Rattle.std.specs.Prelude.{IsTrue, slice_get}
use Rattle.std.specs.List.{All, Contains, flat_map}
use Rattle.std.proofs.lemmas.List.{append-nil}
use Rattle.std.proofs.lemmas.List.Elements.{All-append, All-cons, All-contains, All-head, All-map, All-nil, All-push, All-tail, All-weaker, Contains-append_left, Contains-append_right}
use Rattle.sp_values.specs.declared.value.Value.{Value}
use Rattle.sp_values.specs.declared.value.Ty.{Ty}
use Rattle.sp_values.specs.declared.value.Ty.TheVariants as ty
use Rattle.sp_values.specs.declared.value.Op.TheVariants as op
use Rattle.sp_values.specs.declared.place.Invocation.{Invocation}
use Rattle.sp_values.specs.Domains.{are_values}
use Rattle.sp_values.specs.Identity.{same_value-Decides}
use Rattle.sp_core.specs.declared.expr.Expr.{Expr}
use Rattle.sp_core.specs.declared.function.Function.{Function}
use Rattle.sp_core.specs.Effects.{GuardedChange, GuardedResult, changes_in, effect_trees, results_in}
use Rattle.sp_core.specs.Instances.{Filling, IsAdmissible, IsInstance, machine_of}
use Rattle.sp_core.specs.Machine.{AreBindings, IsHeld, IsInvocationOf, IsState, Machine, level_of, types_of}
use Rattle.sp_core.specs.Measures.{Anything, LooksAt, Nothing}
use Rattle.sp_core.specs.Parts.{Parts, signature}
use Rattle.sp_core.specs.Tree.{Tree, Trees, Not, Two, none, more, tree}
use Rattle.sp_core.specs.Values.{Reads, Store, World, is_true, level_number, look, value_of, values_of}
use Rattle.sp_core.specs.WellFormed.{IsDerivation, IsExpression, IsKind, IsWellFormed}
use Rattle.sp_core.proofs.Bindings.{are_values-append, bindings_typed, length_values}
use Rattle.sp_flow.specs.Flows.{Agree, CallFlows, ChangeFlows, DerivationsFlow, FlowsUpward, IsUnder, ReadUnder, ReadsUnder, ResultFlows, TestsUnder, call_level, denials, place_level}
use Rattle.sp_core.proofs.StatesTyped.{args_typed, environment, own_change_typed}
use Rattle.sp_core.proofs.EffectsTyped.{guards_typed, result_typed}
use Rattle.sp_core.specs.Laws.{IsCondition, IsGuard}
use Rattle.sp_core.proofs.Elements.{slice_contains}
use Rattle.sp_sequent.specs.declared.formula.FormulaKind.TheVariants as is
use Rattle.sp_formulas.specs.Formulas.{Formula, Spot, about, agreements, conditions, denied, derivation_formulas, equal_all, exception_formulas, formula, formulas, function_formulas, guard_formulas, guards_of, item_formulas, level_at, reference_formulas, spot}
use Rattle.sp_claims.specs.Models.{HoldsIn}
use Rattle.sp_hold.specs.Holding.{AllHoldIn, IsTrueOver, claim}
use Rattle.sp_formulas.specs.Items.{items_in}
use Rattle.sp_formulas.specs.Moves.{raise, raise_all, settle}
use Rattle.sp_formulas.specs.References.{references, references_in}
use Rattle.sp_hold.proofs.Scopes.{AreScoped, FitAll, Fits, IsScoped}
use Rattle.sp_hold.proofs.Gives.{AreKnown, args_known, bindings_known, from_formula, held_settled, known-append, length-types, level_fits, level_value, own_level, settled, spot_read_all, spot_reads, still_held, weaken_fit, weaken_fits}
use Rattle.sp_hold.proofs.Listed.{agreement, agreement_listed, all_results_listed, change_item, change_listed, in_formulas, of_item, result_item}
use Rattle.sp_hold.proofs.Moved.{below-settle}
use Rattle.sp_hold.proofs.MoveLemmas.{fit_all, fits, fits_more, value-raise, values-raise}
use Rattle.sp_core.proofs.Agree.{value_no_new}
use Rattle.sp_hold.proofs.NoNew.{below_no_new}
use Rattle.sp_hold.proofs.Scoped.{all_scoped, scoped}
use Rattle.sp_hold.proofs.SettleLemmas.{raise_all_scoped, raise_scoped, settle_scoped}

-- each formula of a list holds, by its place
abbrev EachHolds : Machine → List Formula → Type 0
EachHolds m os = (o : Formula) → Contains os o → HoldsIn m (claim o)

nothing_left : (k : ℕ) (v : List Value) → length v ≤ k → AreKnown (drop k v)
nothing_left zero [] l = tt
nothing_left zero (x ∷ v) l = absurd (omega (arith, l))
nothing_left (suc k) [] l = tt
nothing_left (suc k) (x ∷ v) l = nothing_left k v (omega (arith, l))

same_denials : (es : List (List ℕ × Expr)) → map Not (map (λ e. tree e.1) es) ≡ map (λ e. Not (tree e.1)) es
same_denials [] = refl
same_denials (e ∷ es) = ap (λ ts. Not (tree e.1) ∷ ts) (same_denials es)

equal_fit : (n : ℕ) (ds es : Trees) → FitAll n ds → FitAll n es → All (Fits n) (equal_all ds es)
equal_fit n none es h k = All-nil (Fits n)
equal_fit n (more d ds) none h k = All-nil (Fits n)
equal_fit n (more d ds) (more e es) h k = All-cons (Fits n) (Two op.Same d e) (equal_all ds es) (h.0, k.0) (equal_fit n ds es h.1 k.1)

equal_held : (w : World) (r new : Reads) (z : List Value) (ds es : Trees) → values_of w r new z ds ≡ values_of w r new z es → All (IsTrueOver w r new z) (equal_all ds es)
equal_held w r new z none es h = All-nil (IsTrueOver w r new z)
equal_held w r new z (more d ds) none h = All-nil (IsTrueOver w r new z)
equal_held w r new z (more d ds) (more e es) h =
    let first : value_of w r new z d ≡ value_of w r new z e = cc in
    let rest : values_of w r new z ds ≡ values_of w r new z es = cc in
    All-cons (IsTrueOver w r new z) (Two op.Same d e) (equal_all ds es) ((same_value-Decides (value_of w r new z d) (value_of w r new z e)).1 first) (equal_held w r new z ds es rest)

raised_held : (w : World) (r new : Reads) (z : List Value) (k d n : ℕ) (y : List Value) → ((c : Tree) → IsScoped n c → value_of w r new z (raise k d c) ≡ value_of w r new y c) → (cs : List Tree) → All (IsScoped n) cs → All (IsTrueOver w r new y) cs → All (IsTrueOver w r new z) (map (raise k d) cs)
raised_held w r new z k d n y e [] sc h = All-nil (IsTrueOver w r new z)
raised_held w r new z k d n y e (c ∷ cs) sc h =
    All-cons (IsTrueOver w r new z) (raise k d c) (map (raise k d) cs) (ap is_true (e c (All-head (IsScoped n) c cs sc)) ∙ All-head (IsTrueOver w r new y) c cs h)
    (raised_held w r new z k d n y e cs (All-tail (IsScoped n) c cs sc) (All-tail (IsTrueOver w r new y) c cs h))

-- a condition whose quantifiers are within n variables, and which reads no new value
record IsTest (n : ℕ) (c : Tree) : Type 0 where
  fits : Fits n c
  no_new : LooksAt Anything Nothing c

module _ (p : Parts) (fill : Filling) (wf : IsWellFormed p) (inst : IsInstance p fill) (admits : IsAdmissible p fill) (holds : AllHoldIn (machine_of p fill) (formulas p)) where
  abbrev m : Machine
  m = machine_of p fill

  -- The formulas of a function

  of_function : (g : ℕ) (f : Function) → slice_get p.functions g ≡ Some f → EachHolds m (function_formulas p g f)
  of_function g f at q c = let zero_left : g ≡ 0 + g = omega arith in All-contains (λ o. HoldsIn m (claim o)) (formulas p) q holds (in_formulas p 0 p.functions g f at q (subst (λ j. Contains (function_formulas p j f) q) zero_left c))

  of_exceptions : (g : ℕ) (f : Function) → slice_get p.functions g ≡ Some f → EachHolds m (exception_formulas p (spot is.ExceptionReference g f [] (tree f.level)) [] (conditions f))
  of_exceptions g f at q c = of_function g f at q (Contains-append_left _ _ q c)

  of_rest : (g : ℕ) (f : Function) → slice_get p.functions g ≡ Some f → EachHolds m (derivation_formulas p g f f.kind ++ (flat_map (item_formulas p g f) (items_in (effect_trees f.kind)) ++ agreements p g f (items_in (effect_trees f.kind))))
  of_rest g f at q c = of_function g f at q (Contains-append_right (exception_formulas p (spot is.ExceptionReference g f [] (tree f.level)) [] (conditions f)) _ q c)

  of_derivation : (g : ℕ) (f : Function) → slice_get p.functions g ≡ Some f → EachHolds m (derivation_formulas p g f f.kind)
  of_derivation g f at q c = of_rest g f at q (Contains-append_left _ _ q c)

  of_items : (g : ℕ) (f : Function) → slice_get p.functions g ≡ Some f → EachHolds m (flat_map (item_formulas p g f) (items_in (effect_trees f.kind)))
  of_items g f at q c = of_rest g f at q (Contains-append_right (derivation_formulas p g f f.kind) _ q (Contains-append_left _ _ q c))

  of_agreements : (g : ℕ) (f : Function) → slice_get p.functions g ≡ Some f → EachHolds m (agreements p g f (items_in (effect_trees f.kind)))
  of_agreements g f at q c = of_rest g f at q (Contains-append_right (derivation_formulas p g f f.kind) _ q (Contains-append_right (flat_map (item_formulas p g f) (items_in (effect_trees f.kind))) _ q c))

  of_change : (g : ℕ) (f : Function) → slice_get p.functions g ≡ Some f → (a : GuardedChange) → Contains (changes_in (effect_trees f.kind)) a → EachHolds m (item_formulas p g f (change_item a))
  of_change g f at a of q c = of_items g f at q (of_item p g f (items_in (effect_trees f.kind)) (change_item a) q (change_listed (effect_trees f.kind) a of) c)

  of_result : (g : ℕ) (f : Function) → slice_get p.functions g ≡ Some f → (r : GuardedResult) → Contains (results_in (effect_trees f.kind)) r → EachHolds m (item_formulas p g f (result_item r))
  of_result g f at r of q c = of_items g f at q (of_item p g f (items_in (effect_trees f.kind)) (result_item r) q (all_results_listed (effect_trees f.kind) r of) c)

  -- Derivations

  derivations_flow : DerivationsFlow m
  derivations_flow s state g f t e v there at typed =
      let r = look m.world m.functions s in
      let xs = types_of f.formals in
      let own : IsDerivation (signature p) (types_of f.formals) g t e = subst (IsKind (signature p) (types_of f.formals) g) at (wf.functions g f there).kind in
      let long : length v ≡ length xs = length_values m.world.sizes xs v typed in
      let all : length v ≡ length f.formals = long ∙ length-types f.formals in
      let here : Spot = record { about = about is.DerivationReference g f; known = length f.formals; bound = []; upper = tree f.level } in
      let up : Fits (length v) (tree f.level) = fits (tree f.level) (length xs) (length v) (omega (arith, long)) (scoped (signature p) xs (tree f.level) ty.Level (wf.functions g f there).level.expression.typed) in
      let level : level_number (value_of m.world r r v (tree f.level)) ≡ level_of m g v = ap (λ x. level_number (value_of m.world r r x (tree f.level))) (sym (append-nil v)) ∙ own_level p fill wf inst admits s s g f there v [] typed in
      let env : are_values m.world.sizes (types_of f.formals ++ []) v ≡ true = subst (λ us. are_values m.world.sizes us v ≡ true) (sym (append-nil xs)) typed in
      subst (λ l. ReadsUnder m s s v l (tree e)) level
      (spot_reads p fill wf inst admits s s here [] (tree e)
      (λ q c. of_derivation g f there q (subst (λ k. Contains (derivation_formulas p g f k) q) (sym at) c) s s state state) v env (omega (arith, all)) (nothing_left (length f.formals) v (omega (arith, all)))
      (All-nil (Fits (length v))) up (All-nil (IsTrueOver m.world r r v)) (subst (λ k. IsScoped k (tree e)) (sym long) (scoped (signature p) xs (tree e) t own.expression.typed)))

  -- Invocations

  module _ (i : Invocation) (f : Function) (call : IsInvocationOf m i f) where
    abbrev xs : List Ty
    xs = types_of f.formals

    typed : are_values m.world.sizes (types_of f.formals) i.args ≡ true
    typed = args_typed p fill wf inst i f call

    long : length i.args ≡ length f.formals
    long = length_values m.world.sizes xs i.args typed ∙ length-types f.formals

    known : AreKnown i.args
    known = args_known m.world.sizes xs i.args call.arguments

    env_here : are_values m.world.sizes (types_of f.formals ++ []) i.args ≡ true
    env_here = subst (λ us. are_values m.world.sizes us i.args ≡ true) (sym (append-nil xs)) typed

    level_up : (n : ℕ) → length i.args ≤ n → Fits n (tree f.level)
    level_up n le = fits (tree f.level) (length xs) n (let e = length_values m.world.sizes xs i.args typed in omega (arith, le, e)) (scoped (signature p) xs (tree f.level) ty.Level (wf.functions i.fun f call.function).level.expression.typed)

    level_is : (s u : Store) (cs : List Value) → level_number (value_of m.world (look m.world m.functions s) (look m.world m.functions u) (i.args ++ cs) (tree f.level)) ≡ call_level m i
    level_is s u cs = own_level p fill wf inst admits s u i.fun f call.function i.args cs typed

    level_here : (s u : Store) → level_number (value_of m.world (look m.world m.functions s) (look m.world m.functions u) i.args (tree f.level)) ≡ call_level m i
    level_here s u = ap (λ x. level_number (value_of m.world (look m.world m.functions s) (look m.world m.functions u) x (tree f.level))) (sym (append-nil i.args)) ∙ level_is s u []

    expressions : All (λ e. IsExpression (signature p) (types_of f.formals) (tree e.1) ty.Boolean) f.exceptions
    expressions = (wf.functions i.fun f call.function).exceptions

    conditions_scoped : All (IsScoped (length i.args)) (conditions f)
    conditions_scoped =
        All-map (IsScoped (length i.args)) (λ e. tree e.1) f.exceptions
        (All-weaker (λ e. IsExpression (signature p) (types_of f.formals) (tree e.1) ty.Boolean) (λ e. IsScoped (length i.args) (tree e.1))
        (λ e h. subst (λ k. IsScoped k (tree e.1)) (sym (length_values m.world.sizes xs i.args typed)) (scoped (signature p) xs (tree e.1) ty.Boolean h.typed)) f.exceptions expressions)

    -- the exceptions, tried in order
    tests_exceptions : (s : Store) → IsState m s → (before es : List Tree) → EachHolds m (exception_formulas p (spot is.ExceptionReference i.fun f [] (tree f.level)) before es) → All (Fits (length i.args)) before → All (IsScoped (length i.args)) es
        → All (IsHeld m s i.args) before → TestsUnder m s i.args (call_level m i) (map Not es)
    tests_exceptions s state before [] hold fb sc hb = tt
    tests_exceptions s state before (e ∷ es) hold fb sc hb = (
      subst (λ l. ReadsUnder m s s i.args l e) (level_here s s)
          (spot_reads p fill wf inst admits s s (spot is.ExceptionReference i.fun f [] (tree f.level)) before e (λ q c. hold q (Contains-append_left _ _ q c) s s state state) i.args env_here (omega arith) known fb
          (level_up (length i.args) (omega arith)) hb (All-head (IsScoped (length i.args)) e es sc)),
      λ no. tests_exceptions s state (before ++ Not e ∷ []) es (λ q c. hold q (Contains-append_right (reference_formulas p (spot is.ExceptionReference i.fun f [] (tree f.level)) before (references e)) _ q c))
          (All-push (Fits (length i.args)) before (Not e) fb (fits e (length i.args) (length i.args) (omega arith) (All-head (IsScoped (length i.args)) e es sc)))
          (All-tail (IsScoped (length i.args)) e es sc) (All-push (IsHeld m s i.args) before (Not e) hb no),
    )

    exceptions_flow : (s : Store) → IsState m s → TestsUnder m s i.args (call_level m i) (denials f)
    exceptions_flow s state =
        subst (TestsUnder m s i.args (call_level m i)) (same_denials f.exceptions)
        (tests_exceptions s state [] (conditions f) (of_exceptions i.fun f call.function) (All-nil (Fits (length i.args))) conditions_scoped (All-nil (IsHeld m s i.args)))

    module _ (s u : Store) (state : IsState m s) (new_state : IsState m u) (plain : All (IsHeld m s i.args) (denials f)) where
      abbrev r : Reads
      r = look m.world m.functions s

      abbrev n : Reads
      n = look m.world m.functions u

      -- conditions that are TRUE in the old state are so over both
      held_over : (x : List Value) (cs : List Tree) → All (LooksAt Anything Nothing) cs → All (IsHeld m s x) cs → All (IsTrueOver m.world r n x) cs
      held_over x [] ok h = All-nil (IsTrueOver m.world r n x)
      held_over x (c ∷ cs) ok h =
          All-cons (IsTrueOver m.world r n x) c cs (ap is_true (value_no_new m.world r n r c x (All-head (LooksAt Anything Nothing) c cs ok)) ∙ All-head (IsHeld m s x) c cs h)
          (held_over x cs (All-tail (LooksAt Anything Nothing) c cs ok) (All-tail (IsHeld m s x) c cs h))

      denied_fits : (k : ℕ) → length i.args ≤ k → All (Fits k) (denied f)
      denied_fits k le = All-map (Fits k) Not (conditions f) (All-weaker (IsScoped (length i.args)) (λ c. Fits k (Not c)) (λ c h. fits c (length i.args) k le h) (conditions f) conditions_scoped)

      denied_no_new : All (LooksAt Anything Nothing) (denied f)
      denied_no_new =
          All-map (LooksAt Anything Nothing) Not (conditions f) (All-map (λ c. LooksAt Anything Nothing (Not c)) (λ e. tree e.1) f.exceptions
          (All-weaker (λ e. IsExpression (signature p) (types_of f.formals) (tree e.1) ty.Boolean) (λ e. LooksAt Anything Nothing (tree e.1)) (λ e h. h.no_new) f.exceptions expressions))

      denied_here : All (IsTrueOver m.world r n i.args) (denied f)
      denied_here = held_over i.args (denied f) denied_no_new (subst (All (IsHeld m s i.args)) (sym (same_denials f.exceptions)) plain)

      denied_held : (cs : List Value) → All (IsTrueOver m.world r n (i.args ++ cs)) (denied f)
      denied_held cs = still_held p fill wf inst admits s u i.args cs (denied f) (denied_fits (length i.args) (omega arith)) denied_here

      -- guards, tried in order
      tests_guards : (o : Spot) → (x : List Value) → are_values m.world.sizes (types_of o.about.formals ++ o.bound) x ≡ true → o.known ≤ length x → AreKnown (drop o.known x) → Fits (length x) o.upper
          → (l num : ℕ) → level_number (value_of m.world r n x o.upper) ≡ l → length x ≡ num
          → (before gs : List Tree) → EachHolds m (guard_formulas p o before (map (settle num) gs)) → All (Fits (length x)) before → All (IsTrueOver m.world r n x) before → All (IsTest (length x)) gs → TestsUnder m s x l gs
      tests_guards o x env le kn up l num level count before [] hold fb hb fg = tt
      tests_guards o x env le kn up l num level count before (c ∷ gs) hold fb hb fg =
          let own = All-head (IsTest (length x)) c gs fg in
          let fit : Fits num c = subst (λ k. Fits k c) count own.fits in
          let sc : IsScoped (length x) (settle num c) = subst (λ k. IsScoped k (settle num c)) (sym count) (settle_scoped num c fit) in
          let first = spot_reads p fill wf inst admits s u o before (settle num c) (λ q k. hold q (Contains-append_left _ _ q k) s u state new_state) x env le kn fb up hb sc in
          let leveled : ReadsUnder m s u x l (settle num c) = subst (λ k. ReadsUnder m s u x k (settle num c)) level first in
          let back : ReadsUnder m s u x l c = below-settle m.world r n (IsUnder m l) c x own.fits (subst (λ k. ReadsUnder m s u x l (settle k c)) (sym count) leveled) in (
            below_no_new m.world r n r (IsUnder m l) c x own.no_new back,
            λ yes. tests_guards o x env le kn up l num level count (before ++ settle num c ∷ []) gs
                (λ q k. hold q (Contains-append_right (reference_formulas p o before (references (settle num c))) _ q k))
                (All-push (Fits (length x)) before (settle num c) fb (fits (settle num c) (length x) (length x) (omega arith) sc))
                (All-push (IsTrueOver m.world r n x) before (settle num c) hb (ap is_true (settled p fill wf inst admits s u x num count c fit ∙ value_no_new m.world r n r c x own.no_new) ∙ yes))
                (All-tail (IsTest (length x)) c gs fg),
          )

      -- Changes

      guards_fit : (a : GuardedChange) (cs : List Value) → Contains (changes_in (effect_trees f.kind)) a → AreBindings m.world a.vars cs → All (IsTest (length (i.args ++ cs))) a.guards
      guards_fit a cs of bound =
          let env = environment p fill wf inst i f call a.vars cs bound in
          let all : length (i.args ++ cs) ≡ length (types_of f.formals ++ a.vars) = length_values m.world.sizes (xs ++ a.vars) (i.args ++ cs) env in
          All-weaker (IsGuard (signature p) (types_of f.formals) a.vars) (IsTest (length (i.args ++ cs)))
          (λ c h.
          let parts = ap length h.2.parts in
          record {
            fits = fits c (length (xs ++ h.0)) (length (i.args ++ cs)) (omega (arith, all, parts, length-append (types_of f.formals) a.vars, length-append (types_of f.formals) h.0, length-append h.0 h.1)) (scoped (signature p) (xs ++ h.0) c ty.Boolean h.2.condition.typed);
            no_new = h.2.condition.no_new;
          }) a.guards (guards_typed (signature p) xs i.fun f.kind (wf.functions i.fun f call.function).kind a of)

      module _ (a : GuardedChange) (cs : List Value) (of : Contains (changes_in (effect_trees f.kind)) a) (bound : AreBindings m.world a.vars cs) where
        abbrev x : List Value
        x = i.args ++ cs

        env : are_values m.world.sizes (types_of f.formals ++ a.vars) (i.args ++ cs) ≡ true
        env = environment p fill wf inst i f call a.vars cs bound

        kn : AreKnown (i.args ++ cs)
        kn = known-append i.args cs known (bindings_known m.world a.vars cs bound)

        size : length (i.args ++ cs) ≡ length f.formals + length a.vars
        size = omega (arith, length-append i.args cs, long, length_values m.world.sizes a.vars cs (bindings_typed m.world a.vars cs bound))

        more_here : length i.args ≤ length (i.args ++ cs)
        more_here = omega (arith, length-append i.args cs)

        args_fit : AreScoped (length (i.args ++ cs)) a.args
        args_fit = let t = own_change_typed p fill wf inst i f call a of in subst (λ k. AreScoped k a.args) (sym (length_values m.world.sizes (xs ++ a.vars) x env)) (all_scoped (signature p) (xs ++ a.vars) a.args (types_of t.0.formals) t.2.args)

        value_fits : IsScoped (length (i.args ++ cs)) a.value
        value_fits = let t = own_change_typed p fill wf inst i f call a of in subst (λ k. IsScoped k a.value) (sym (length_values m.world.sizes (xs ++ a.vars) x env)) (scoped (signature p) (xs ++ a.vars) a.value t.1 t.2.value)

        place_up : Fits (length (i.args ++ cs)) (level_at p a.fun a.args)
        place_up = level_fits p fill wf inst admits s u a.fun (length x) a.args (fit_all a.args (length x) (length x) (omega arith) args_fit)

        place_is : level_number (value_of m.world r n (i.args ++ cs) (level_at p a.fun a.args)) ≡ place_level m s u i a cs
        place_is = level_value p fill wf inst admits s u a.fun a.args x

        settled_fit : All (Fits (length (i.args ++ cs))) (guards_of f (change_item a))
        settled_fit =
            All-map (Fits (length x)) (settle (length f.formals + length a.vars)) a.guards (All-weaker (IsTest (length x)) (λ c. Fits (length x) (settle (length f.formals + length a.vars) c))
            (λ c h. fits (settle (length f.formals + length a.vars) c) (length f.formals + length a.vars) (length x) (omega (arith, size)) (settle_scoped (length f.formals + length a.vars) c (subst (λ k. Fits k c) size h.fits))) a.guards (guards_fit a cs of bound))

        settled_held : All (IsHeld m s (i.args ++ cs)) a.guards → All (IsTrueOver m.world r n (i.args ++ cs)) (guards_of f (change_item a))
        settled_held held =
            held_settled p fill wf inst admits s u x (length f.formals + length a.vars) size a.guards
            (All-weaker (IsTest (length x)) (Fits (length f.formals + length a.vars)) (λ c h. subst (λ k. Fits k c) size h.fits) a.guards (guards_fit a cs of bound))
            (held_over x a.guards (All-weaker (IsTest (length x)) (LooksAt Anything Nothing) (λ c h. h.no_new) a.guards (guards_fit a cs of bound)) held)

        both_fit : All (Fits (length (i.args ++ cs))) (denied f ++ guards_of f (change_item a))
        both_fit = All-append (Fits (length x)) (denied f) (guards_of f (change_item a)) (denied_fits (length x) more_here) settled_fit

        both_held : All (IsHeld m s (i.args ++ cs)) a.guards → All (IsTrueOver m.world r n (i.args ++ cs)) (denied f ++ guards_of f (change_item a))
        both_held held = All-append (IsTrueOver m.world r n x) (denied f) (guards_of f (change_item a)) (denied_held cs) (settled_held held)

        abbrev g_spot : Spot
        g_spot = spot is.GuardReference i.fun f a.vars (level_at p a.fun a.args)

        abbrev v_spot : Spot
        v_spot = spot is.ValueReference i.fun f a.vars (level_at p a.fun a.args)

        abbrev t_spot : Spot
        t_spot = spot is.TargetReference i.fun f a.vars (tree f.level)

        abbrev gs : List Formula
        gs = guard_formulas p (spot is.GuardReference i.fun f a.vars (level_at p a.fun a.args)) (denied f) (guards_of f (change_item a))

        abbrev vs : List Formula
        vs = reference_formulas p (spot is.ValueReference i.fun f a.vars (level_at p a.fun a.args)) (denied f ++ guards_of f (change_item a)) (references a.value)

        abbrev ts : List Formula
        ts = reference_formulas p (spot is.TargetReference i.fun f a.vars (tree f.level)) (denied f) (references_in a.args)

        abbrev change : Formula
        change = formula p (about is.Change i.fun f) 0 a.vars (denied f ++ guards_of f (change_item a)) (Two op.LevelLe (tree f.level) (level_at p a.fun a.args))

        own_formulas : EachHolds m (change ∷ (gs ++ (vs ++ ts)))
        own_formulas = of_change i.fun f call.function a of

        after : EachHolds m (gs ++ (vs ++ ts))
        after q c = own_formulas q (Contains-append_right (change ∷ []) (gs ++ (vs ++ ts)) q c)

        change_flows : ChangeFlows m s u i a cs
        change_flows = record {
          target = subst (λ l. ReadUnder m s u x l a.args) (level_is s u cs)
              (spot_read_all p fill wf inst admits s u t_spot (denied f) a.args (λ q c. after q (Contains-append_right gs (vs ++ ts) q (Contains-append_right vs ts q c)) s u state new_state) x env (omega arith) kn
              (denied_fits (length x) more_here) (level_up (length x) more_here) (denied_held cs) args_fit);
          guards = tests_guards g_spot x env (omega arith) kn place_up (place_level m s u i a cs) (length f.formals + length a.vars) place_is size (denied f) a.guards
              (λ q c. after q (Contains-append_left gs (vs ++ ts) q c)) (denied_fits (length x) more_here) (denied_held cs) (guards_fit a cs of bound);
          value = λ held. subst (λ l. ReadsUnder m s u x l a.value) place_is
              (spot_reads p fill wf inst admits s u v_spot (denied f ++ guards_of f (change_item a)) a.value (λ q c. after q (Contains-append_right gs (vs ++ ts) q (Contains-append_left vs ts q c)) s u state new_state) x env (omega arith) kn
              both_fit place_up (both_held held) value_fits);
          upward = λ held.
              let goal = from_formula p fill wf inst admits s u (about is.Change i.fun f) 0 a.vars (denied f ++ guards_of f (change_item a)) (Two op.LevelLe (tree f.level) (level_at p a.fun a.args))
              (own_formulas change (Contains-append_left (change ∷ []) (gs ++ (vs ++ ts)) change (0, omega arith, refl)) s u state new_state) x env (omega arith) kn both_fit (level_up (length x) more_here, place_up) (both_held held) in
              subst (λ k. IsTrue (m.world.below k (place_level m s u i a cs))) (level_is s u cs)
              (subst (λ k. IsTrue (m.world.below (level_number (value_of m.world r n x (tree f.level))) k)) place_is goal);
        }

      -- Results

      result_flows : (q : GuardedResult) → Contains (results_in (effect_trees f.kind)) q → ResultFlows m s u i q
      result_flows q of =
          let own = result_typed (signature p) xs i.fun f.kind (wf.functions i.fun f call.function).kind q of in
          let lx : length i.args ≡ length xs = length_values m.world.sizes xs i.args typed in
          let num = length f.formals + 0 in
          let count : length i.args ≡ num = omega (arith, long) in
          let tests : All (IsTest (length i.args)) q.guards = All-weaker (IsCondition (signature p) (types_of f.formals)) (IsTest (length i.args))
          (λ c h. record { fits = fits c (length xs) (length i.args) (omega (arith, lx)) (scoped (signature p) xs c ty.Boolean h.typed); no_new = h.no_new }) q.guards own.2.guards in
          let g_spot : Spot = spot is.ResultGuardReference i.fun f [] (tree f.level) in
          let v_spot : Spot = spot is.ResultReference i.fun f [] (tree f.level) in
          let gs = guard_formulas p g_spot (denied f) (map (settle num) q.guards) in
          let vs = reference_formulas p v_spot (denied f ++ map (settle num) q.guards) (references q.value) in
          let up = level_up (length i.args) (omega arith) in
          let fd = denied_fits (length i.args) (omega arith) in
          record {
            guards = tests_guards g_spot i.args env_here (omega arith) known up (call_level m i) num (level_here s u) count (denied f) q.guards (λ o c. of_result i.fun f call.function q of o (Contains-append_left gs vs o c)) fd denied_here tests;
            value = λ held. subst (λ l. ReadsUnder m s u i.args l q.value) (level_here s u)
                (spot_reads p fill wf inst admits s u v_spot (denied f ++ map (settle num) q.guards) q.value (λ o c. of_result i.fun f call.function q of o (Contains-append_right gs vs o c) s u state new_state) i.args env_here (omega arith) known
                (All-append (Fits (length i.args)) (denied f) (map (settle num) q.guards) fd (All-map (Fits (length i.args)) (settle num) q.guards (All-weaker (IsTest (length i.args)) (λ c. Fits (length i.args) (settle num c))
                (λ c h. fits (settle num c) num (length i.args) (omega (arith, count)) (settle_scoped num c (subst (λ k. Fits k c) count h.fits))) q.guards tests)))
                up
                (All-append (IsTrueOver m.world r n i.args) (denied f) (map (settle num) q.guards) denied_here
                (held_settled p fill wf inst admits s u i.args num count q.guards (All-weaker (IsTest (length i.args)) (Fits num) (λ c h. subst (λ k. Fits k c) count h.fits) q.guards tests)
                (held_over i.args q.guards (All-weaker (IsTest (length i.args)) (LooksAt Anything Nothing) (λ c h. h.no_new) q.guards tests) held)))
                (subst (λ k. IsScoped k q.value) (sym lx) (scoped (signature p) xs q.value own.0 own.2.value)));
          }

      -- Agreements

      agree : (a b : GuardedChange) → Contains (changes_in (effect_trees f.kind)) a → Contains (changes_in (effect_trees f.kind)) b → HoldsIn m (claim (agreement p i.fun f a b)) → Agree m s u i a b
      agree a b of_a of_b hold cs ds bound_a bound_b held_a held_b same e =
          let k = length f.formals in
          let d = length a.vars in
          let na = k + d in
          let nb = k + length b.vars in
          let z = i.args ++ (cs ++ ds) in
          let zz : i.args ++ cs ++ ds ≡ z = append_assoc i.args cs ds in
          let lk : length i.args ≡ k = long in
          let lcs : length cs ≡ d = length_values m.world.sizes a.vars cs (bindings_typed m.world a.vars cs bound_a) in
          let lds : length ds ≡ length b.vars = length_values m.world.sizes b.vars ds (bindings_typed m.world b.vars ds bound_b) in
          let lac : length (i.args ++ cs) ≡ na = size a cs of_a bound_a in
          let lad : length (i.args ++ ds) ≡ nb = size b ds of_b bound_b in
          let lz : length z ≡ nb + d = omega (arith, length-append i.args (cs ++ ds), length-append cs ds, lk, lcs, lds) in
          let le_k : length i.args ≤ length z = omega (arith, lz, lk) in
          let le_a : length (i.args ++ cs) ≤ length z = omega (arith, lz, lac) in
          let env : are_values m.world.sizes (types_of f.formals ++ (a.vars ++ b.vars)) z ≡ true =
          are_values-append m.world.sizes (types_of f.formals) (a.vars ++ b.vars) i.args (cs ++ ds) typed (are_values-append m.world.sizes a.vars b.vars cs ds (bindings_typed m.world a.vars cs bound_a) (bindings_typed m.world b.vars ds bound_b)) in
          let kn : AreKnown z = known-append i.args (cs ++ ds) known (known-append cs ds (bindings_known m.world a.vars cs bound_a) (bindings_known m.world b.vars ds bound_b)) in
          let tests_a = guards_fit a cs of_a bound_a in
          let tests_b = guards_fit b ds of_b bound_b in
          let raised_b : (c : Tree) → IsScoped nb c → value_of m.world r n z (raise k d c) ≡ value_of m.world r n (i.args ++ ds) c = λ c sc.
          ap (λ y. value_of m.world r n y (raise k d c)) (sym zz) ∙ value-raise m.world r n k d i.args cs lk lcs c ds (subst (λ j. IsScoped j c) (sym lad) sc) in
          let fraise : (c : Tree) → IsScoped nb c → Fits (length z) (raise k d c) = λ c sc. fits (raise k d c) (nb + d) (length z) (omega (arith, lz)) (raise_scoped k d c nb sc) in
          let fga : All (Fits (length (i.args ++ cs))) a.guards = All-weaker (IsTest (length (i.args ++ cs))) (Fits (length (i.args ++ cs))) (λ c h. h.fits) a.guards tests_a in
          let hga = held_over (i.args ++ cs) a.guards (All-weaker (IsTest (length (i.args ++ cs))) (LooksAt Anything Nothing) (λ c h. h.no_new) a.guards tests_a) held_a in
          let ha : All (IsTrueOver m.world r n z) a.guards = subst (λ y. All (IsTrueOver m.world r n y) a.guards) zz (still_held p fill wf inst admits s u (i.args ++ cs) ds a.guards fga hga) in
          let fa : All (Fits (length z)) a.guards = All-weaker (Fits (length (i.args ++ cs))) (Fits (length z)) (λ c h. fits_more c (length (i.args ++ cs)) (length z) le_a h) a.guards fga in
          let scb : All (IsScoped nb) (guards_of f (change_item b)) = All-map (IsScoped nb) (settle nb) b.guards (All-weaker (IsTest (length (i.args ++ ds))) (λ c. IsScoped nb (settle nb c)) (λ c h. settle_scoped nb c (subst (λ j. Fits j c) lad h.fits)) b.guards tests_b) in
          let hb : All (IsTrueOver m.world r n z) (map (raise k d) (guards_of f (change_item b))) = raised_held m.world r n z k d nb (i.args ++ ds) raised_b (guards_of f (change_item b)) scb (settled_held b ds of_b bound_b held_b) in
          let fb : All (Fits (length z)) (map (raise k d) (guards_of f (change_item b))) = All-map (Fits (length z)) (raise k d) (guards_of f (change_item b)) (All-weaker (IsScoped nb) (λ c. Fits (length z) (raise k d c)) fraise (guards_of f (change_item b)) scb) in
          let args_a : FitAll (length (i.args ++ cs)) a.args = fit_all a.args (length (i.args ++ cs)) (length (i.args ++ cs)) (omega arith) (args_fit a cs of_a bound_a) in
          let args_b : AreScoped (length (i.args ++ ds)) b.args = args_fit b ds of_b bound_b in
          let places : values_of m.world r n z a.args ≡ values_of m.world r n z (raise_all k d b.args) =
          ap (λ y. values_of m.world r n y a.args) (sym zz) ∙ weaken_fits m.world r n a.args (i.args ++ cs) ds args_a ∙ e
          ∙ sym (values-raise m.world r n k d i.args cs lk lcs b.args ds args_b) ∙ ap (λ y. values_of m.world r n y (raise_all k d b.args)) zz in
          let eqs = equal_all a.args (raise_all k d b.args) in
          let fargs : All (Fits (length z)) eqs = equal_fit (length z) a.args (raise_all k d b.args) (fit_all a.args (length (i.args ++ cs)) (length z) le_a (args_fit a cs of_a bound_a))
          (fit_all (raise_all k d b.args) (nb + d) (length z) (omega (arith, lz)) (raise_all_scoped k d b.args nb (subst (λ j. AreScoped j b.args) lad args_b))) in
          let hargs = equal_held m.world r n z a.args (raise_all k d b.args) places in
          let value_b : IsScoped nb b.value = subst (λ j. IsScoped j b.value) lad (value_fits b ds of_b bound_b) in
          let goal = from_formula p fill wf inst admits s u (about is.Agreement i.fun f) 0 (a.vars ++ b.vars) (denied f ++ (a.guards ++ (map (raise k d) (guards_of f (change_item b)) ++ eqs))) (Two op.Same a.value (raise k d b.value))
          (hold s u state new_state) z env (omega arith) kn
          (All-append (Fits (length z)) (denied f) _ (denied_fits (length z) le_k) (All-append (Fits (length z)) a.guards _ fa (All-append (Fits (length z)) (map (raise k d) (guards_of f (change_item b))) eqs fb fargs)))
          (fits a.value (length (i.args ++ cs)) (length z) le_a (value_fits a cs of_a bound_a), fraise b.value value_b)
          (All-append (IsTrueOver m.world r n z) (denied f) _ (denied_held (cs ++ ds)) (All-append (IsTrueOver m.world r n z) a.guards _ ha (All-append (IsTrueOver m.world r n z) (map (raise k d) (guards_of f (change_item b))) eqs hb hargs))) in
          let equal : value_of m.world r n z a.value ≡ value_of m.world r n z (raise k d b.value) = (same_value-Decides (value_of m.world r n z a.value) (value_of m.world r n z (raise k d b.value))).0 goal in
          let own : value_of m.world r n z a.value ≡ value_of m.world r n (i.args ++ cs) a.value = ap (λ y. value_of m.world r n y a.value) (sym zz)
          ∙ weaken_fit m.world r n a.value (i.args ++ cs) ds (fits a.value (length (i.args ++ cs)) (length (i.args ++ cs)) (omega arith) (value_fits a cs of_a bound_a)) in
          sym own ∙ equal ∙ raised_b b.value value_b

      call_flows : CallFlows m s u i f
      call_flows = record {
        changes = λ a cs of bound. change_flows a cs of bound;
        results = λ q of. result_flows q of;
        agreement = λ j k a b l at_a at_b cs ds bound_a bound_b held_a held_b same e.
            agree a b (slice_contains (changes_in (effect_trees f.kind)) j a at_a) (slice_contains (changes_in (effect_trees f.kind)) k b at_b)
            (of_agreements i.fun f call.function (agreement p i.fun f a b) (agreement_listed p i.fun f (effect_trees f.kind) j k a b l at_a at_b same)) cs ds bound_a bound_b held_a held_b same e;
      }

  pub flows_upward : FlowsUpward m
  flows_upward = record {
    derivations = derivations_flow;
    exceptions = λ s i f state call. exceptions_flow i f call s state;
    calls = λ s u i f state new_state call plain. call_flows i f call s u state new_state plain;
  }
