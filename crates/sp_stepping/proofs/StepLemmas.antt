-- The step by the parts that it is made of: exceptions, V-functions, and effects.
use Rattle.std.proofs.Common.{◌≡◌, refl, sym, ◌∙◌, ap, subst, arith, ℕ, zero, suc, ◌+◌, ◌<◌, ◌≤◌, ◌⊎◌, inl, inr, List, [], length, map, get_or, Option, Some, None}
use Rattle.std.specs.Prelude.{IsTrue, slice_get}
use Rattle.std.specs.List.{position_from}
use Rattle.std.proofs.lemmas.Iterator.Adapters.{position_from-zero}
use Rattle.std.proofs.lemmas.List.{length-map}
use Rattle.std.proofs.lemmas.Option.{none-some, same_Some, slice_get_read, slice_get_within}
use Rattle.sp_text.specs.declared.limits.TheConstants.{MOST_CHANGED_PLACES}
use Rattle.sp_text.specs.declared.name.Name.{Name}
use Rattle.sp_values.specs.declared.place.Invocation.{Invocation}
use Rattle.sp_values.specs.declared.value.Ty.{Ty}
use Rattle.sp_values.specs.declared.value.Value.{Value}
use Rattle.sp_values.specs.Domains.{are_values}
use Rattle.sp_core.specs.declared.expr.Expr.{Expr}
use Rattle.sp_core.specs.declared.function.Answer.{Answer}
use Rattle.sp_core.specs.declared.function.Answer.TheVariants as answer
use Rattle.sp_core.specs.declared.function.Effect.{Effect}
use Rattle.sp_core.specs.declared.function.Function.{Function}
use Rattle.sp_core.specs.declared.function.Kind.{Kind}
use Rattle.sp_core.specs.declared.function.Kind.TheVariants as kind
use Rattle.sp_core.specs.declared.state.Entry.{Entry}
use Rattle.sp_core.specs.Effects.{GuardedChange, changes_in, effect_tree, effect_trees, effect_trees_of, results_in}
use Rattle.sp_core.specs.Instances.{InstanceParts, IsInstanceOf, filling_of, machine_of, sizes_of, world_of}
use Rattle.sp_core.specs.Machine.{IsInvocationOf, IsResult, IsState, Machine, Outcome, Replies, Stage, first_exception, types_of, value_at}
use Rattle.sp_core.specs.Measures.{HaveResults}
use Rattle.sp_core.specs.Parts.{Parts, signature}
use Rattle.sp_core.specs.States.{AreApart, entry_of}
use Rattle.sp_core.specs.Tree.{tree}
use Rattle.sp_core.specs.Typing.{read_type}
use Rattle.sp_core.specs.Values.{Store, is_true, look}
use Rattle.sp_core.specs.WellFormed.{IsKind, IsWellFormed}
use Rattle.sp_core.proofs.Bindings.{length_values}
use Rattle.sp_core.proofs.TreeLemmas.{effect_trees-Both, effect_trees-Operation}
use Rattle.sp_core.proofs.StatesTyped.{args_typed, step_typed}
use Rattle.sp_eval.specs.Conditions.{IsGiven, IsRead}
use Rattle.sp_listing.specs.Listing.{HasEntries, IsWithin}
use Rattle.sp_stepping.specs.Moments.{AreChangedWithin, AreConditions, IsCall}
use Rattle.sp_stepping.specs.Stepping.{IsChangeFault, IsStepFault, StepsWithin, changes_of}
use Rattle.sp_stepping.specs.declared.fault.StepFault.{StepFault}
use Rattle.sp_stepping.proofs.MomentLemmas.{entries_of}

-- the first exception, by its test
pub first_number : (m : Machine) (s : Store) (i : Invocation) (f : Function) (x : List Value) → x ≡ i.args → (es : List (Name × Expr)) → es ≡ f.exceptions → (o : Option ℕ)
    → o ≡ position_from (λ e. is_true (value_at m s x (tree e.1))) 0 es → first_exception m s i f ≡ o
first_number m s i f x at es is o e =
    position_from-zero (λ e. is_true (value_at m s i.args (tree e.1))) f.exceptions
    ∙ (λ j. position_from (λ e. is_true (value_at m s (sym at j) (tree e.1))) 0 (sym is j)) ∙ sym e

module _ (p : Parts) (inst : InstanceParts) (entries : List Entry) (i : Invocation) (f : Function) (call : IsInvocationOf (machine_of p (filling_of inst)) i f) where
  abbrev m : Machine
  m = machine_of p (filling_of inst)

  abbrev s : Store
  s = entry_of entries

  -- the function of an invocation
  pub own : (g : Function) → slice_get p.functions i.fun ≡ Some g → g ≡ f
  own g h = same_Some g f (sym h ∙ call.function)

  pub own_index : (fs : List Function) → fs ≡ p.functions → (g : Function) → g ≡ get_or fs i.fun g → g ≡ f
  own_index fs e g is =
      own g (subst (λ (xs : List Function). slice_get xs i.fun ≡ Some g) e
      (slice_get_read fs (length fs) i.fun g refl (subst (λ (xs : List Function). i.fun < length xs) (sym e) (slice_get_within p.functions i.fun f call.function)) is))

  pub few_exceptions : IsWellFormed p → (es : List (Name × Expr)) → es ≡ f.exceptions → length es ≤ 16
  few_exceptions wf es e = let fine = wf.functions i.fun f call.function in let same = ap length e in omega (arith, same, fine.few_exceptions)

  pub conditions : IsWellFormed p → IsInstanceOf p inst → (x : List Value) → x ≡ i.args → (es : List (Name × Expr)) → es ≡ f.exceptions → AreConditions p inst x es
  conditions wf is x e es at =
      let fine = wf.functions i.fun f call.function in
      let values = args_typed p (filling_of inst) wf is.instance i f call in
      let long = length_values (sizes_of p (filling_of inst)) (types_of f.formals) i.args values in
      let many = length-map f.formals (λ q. q.ty) in
      subst (λ x. AreConditions p inst x es) (sym e) (subst (AreConditions p inst i.args) (sym at) (types_of f.formals, record { values = values; few = omega (arith, long, many, fine.formals.few); each = fine.exceptions }))

  -- an exception is answered
  pub excepted : (k : ℕ) → first_exception (machine_of p (filling_of inst)) (entry_of entries) i f ≡ Some k → StepsWithin (machine_of p (filling_of inst)) (entry_of entries) i (answer.Exception k) (entry_of entries)
  excepted k e = (
    f,
    record {
      step = record { function = call.function; outcome = subst (λ o. Outcome (machine_of p (filling_of inst)) (entry_of entries) i f o (answer.Exception k) (entry_of entries)) (sym e) (refl, refl) };
      within = λ none. absurd (none-some k (sym none ∙ e));
    },
  )

  module _ (plain : first_exception (machine_of p (filling_of inst)) (entry_of entries) i f ≡ None) where
    -- what the changes lead to is the step, with this answer
    pub answered : (a : Answer) (t : Store) → AreChangedWithin (machine_of p (filling_of inst)) (entry_of entries) i (changes_of f) t → Replies (machine_of p (filling_of inst)) (entry_of entries) t i f.kind a → StepsWithin (machine_of p (filling_of inst)) (entry_of entries) i a t
    answered a t made replies = (
      f,
      record {
        step = record { function = call.function; outcome = subst (λ o. Outcome (machine_of p (filling_of inst)) (entry_of entries) i f o a t) (sym plain) (made.made, replies) };
        within = λ e. made.within;
      },
    )

    pub refused : (e : StepFault) → IsChangeFault (machine_of p (filling_of inst)) (entry_of entries) i (changes_of f) e → IsStepFault (machine_of p (filling_of inst)) (entry_of entries) i e
    refused e h = (f, record { function = call.function; plain = plain; changes = h })

  -- without changes the state stays
  pub unchanged : AreApart entries → length entries ≤ MOST_CHANGED_PLACES → (as' : List GuardedChange) → as' ≡ [] → AreChangedWithin (machine_of p (filling_of inst)) (entry_of entries) i as' (entry_of entries)
  unchanged apart few as' e = subst (λ as'. AreChangedWithin (machine_of p (filling_of inst)) (entry_of entries) i as' (entry_of entries)) (sym e) (record { made = refl; within = λ j u l h. by j l u h })
    where
      by : (j : ℕ) → j ≤ 0 → (u : Store) → Stage (machine_of p (filling_of inst)) (entry_of entries) i [] j u → IsWithin u
      by zero l u h = (length entries, subst (λ v. HasEntries v (length entries)) (sym h) (entries_of entries apart), few)
      by (suc j) l u h = absurd (omega (arith, l))

  -- the parts of effects
  pub call_of : IsWellFormed p → IsGiven p inst entries → AreApart entries → (room : ℕ) → room + length entries ≡ MOST_CHANGED_PLACES → (es : List Effect) → effect_trees f.kind ≡ effect_trees_of (map effect_tree es) → IsCall p inst entries room i es
  call_of wf given apart room fits es e = (f, record { well_formed = wf; given = given; apart = apart; room = fits; call = call; effects = e })

  -- after the step there is a state
  pub stepped : IsWellFormed p → IsGiven p inst entries → (a : Answer) (t : Store) → StepsWithin (machine_of p (filling_of inst)) (entry_of entries) i a t → IsState (machine_of p (filling_of inst)) t
  stepped wf given a t (g, h) = step_typed p (filling_of inst) wf given.instance.instance (entry_of entries) given.state i a t (f, call) (g, h.step)

  -- O-functions and OV-functions, whose effects these are

  pub operation_trees : (g : Function) → g ≡ f → (ws es : List Effect) → g.kind ≡ kind.Operation ws → es ≡ ws → effect_trees f.kind ≡ effect_trees_of (map effect_tree es)
  operation_trees g same ws es is at =
      ap (λ (h : Function). effect_trees h.kind) (sym same) ∙ ap effect_trees is ∙ effect_trees-Operation ws ∙ ap (λ (es : List Effect). effect_trees_of (map effect_tree es)) (sym at)

  pub both_trees : (g : Function) → g ≡ f → (t : Ty) (ws es : List Effect) → g.kind ≡ kind.Both t ws → es ≡ ws → effect_trees f.kind ≡ effect_trees_of (map effect_tree es)
  both_trees g same t ws es is at =
      ap (λ (h : Function). effect_trees h.kind) (sym same) ∙ ap effect_trees is ∙ effect_trees-Both t ws ∙ ap (λ (es : List Effect). effect_trees_of (map effect_tree es)) (sym at)

  pub has_result : IsWellFormed p → (g : Function) → g ≡ f → (t : Ty) (ws es : List Effect) → g.kind ≡ kind.Both t ws → es ≡ ws → HaveResults 1 (effect_trees_of (map effect_tree es))
  has_result wf g same t ws es is at =
      let fine = (wf.functions i.fun f call.function).kind in
      let own = subst (IsKind (signature p) (types_of f.formals) i.fun) (ap (λ (h : Function). h.kind) (sym same) ∙ is) fine in
      subst (HaveResults 1) (effect_trees-Both t ws ∙ ap (λ (es : List Effect). effect_trees_of (map effect_tree es)) (sym at)) own.one_result

  module _ (plain : first_exception (machine_of p (filling_of inst)) (entry_of entries) i f ≡ None) where
    pub operated : (g : Function) → g ≡ f → (ws es : List Effect) → g.kind ≡ kind.Operation ws → es ≡ ws → (t : Store)
        → AreChangedWithin (machine_of p (filling_of inst)) (entry_of entries) i (changes_in (effect_trees_of (map effect_tree es))) t → StepsWithin (machine_of p (filling_of inst)) (entry_of entries) i answer.Done t
    operated g same ws es is at t made =
        answered plain answer.Done t
        (subst (λ ts. AreChangedWithin (machine_of p (filling_of inst)) (entry_of entries) i (changes_in ts) t) (sym (operation_trees g same ws es is at)) made)
        (subst (λ k. Replies (machine_of p (filling_of inst)) (entry_of entries) t i k answer.Done) (sym (ap (λ (h : Function). h.kind) (sym same) ∙ is)) refl)

    pub operated_with : (g : Function) → g ≡ f → (u : Ty) (ws es : List Effect) → g.kind ≡ kind.Both u ws → es ≡ ws → (t : Store) (v : Value)
        → AreChangedWithin (machine_of p (filling_of inst)) (entry_of entries) i (changes_in (effect_trees_of (map effect_tree es))) t
        → IsResult (machine_of p (filling_of inst)) (entry_of entries) t i (results_in (effect_trees_of (map effect_tree es))) v → StepsWithin (machine_of p (filling_of inst)) (entry_of entries) i (answer.Value v) t
    operated_with g same u ws es is at t v made result =
        let m = machine_of p (filling_of inst) in
        let s = entry_of entries in
        let own = subst (λ ts. IsResult m s t i (results_in ts) v) (sym (effect_trees-Both u ws ∙ ap (λ (es : List Effect). effect_trees_of (map effect_tree es)) (sym at))) result in
        answered plain (answer.Value v) t
        (subst (λ ts. AreChangedWithin m s i (changes_in ts) t) (sym (both_trees g same u ws es is at)) made)
        (subst (λ k. Replies m s t i k (answer.Value v)) (sym (ap (λ (h : Function). h.kind) (sym same) ∙ is)) (v, own, refl))

  -- V-functions

  pub read_of : (t : Ty) → read_type f.kind ≡ Some t → (x : List Value) → x ≡ i.args → IsWellFormed p → IsInstanceOf p inst → IsRead p inst i.fun x
  read_of t reads x at wf is =
      (f, t, record { function = call.function; type = reads; arguments = subst (λ x. IsTrue (are_values (sizes_of p (filling_of inst)) (types_of f.formals) x)) (sym at) (args_typed p (filling_of inst) wf is.instance i f call) })

  no_effects : (k : Kind) (t : Ty) → read_type k ≡ Some t → changes_in (effect_trees k) ≡ []
  no_effects (kind.Primitive u e) t h = refl
  no_effects (kind.Derived u e) t h = refl
  no_effects (kind.Operation es) t h = absurd (none-some t h)
  no_effects (kind.Both u es) t h = absurd (none-some t h)

  looks : (k : Kind) (t : Ty) → read_type k ≡ Some t → (v : Value) → v ≡ look (world_of p (filling_of inst)) p.functions (entry_of entries) i.fun i.args → Replies (machine_of p (filling_of inst)) (entry_of entries) (entry_of entries) i k (answer.Value v)
  looks (kind.Primitive u e) t h v q = ap answer.Value q
  looks (kind.Derived u e) t h v q = ap answer.Value q
  looks (kind.Operation es) t h v q = absurd (none-some t h)
  looks (kind.Both u es) t h v q = absurd (none-some t h)

  pub looked : first_exception (machine_of p (filling_of inst)) (entry_of entries) i f ≡ None → AreApart entries → length entries ≤ MOST_CHANGED_PLACES → (t : Ty) → read_type f.kind ≡ Some t → (v : Value)
      → v ≡ look (world_of p (filling_of inst)) p.functions (entry_of entries) i.fun i.args → StepsWithin (machine_of p (filling_of inst)) (entry_of entries) i (answer.Value v) (entry_of entries)
  looked plain apart few t reads v q = answered plain (answer.Value v) (entry_of entries) (unchanged apart few (changes_of f) (no_effects f.kind t reads)) (looks f.kind t reads v q)

  -- the type of a V-function
  pub read_kind : (g : Function) → g ≡ f → ((t : Ty) × (e : Expr) × (g.kind ≡ kind.Primitive t e)) ⊎ ((t : Ty) × (e : Expr) × (g.kind ≡ kind.Derived t e)) → (t : Ty) × (read_type f.kind ≡ Some t)
  read_kind g same (inl (t, e, is)) = (t, ap (λ (h : Function). read_type h.kind) (sym same) ∙ ap read_type is)
  read_kind g same (inr (t, e, is)) = (t, ap (λ (h : Function). read_type h.kind) (sym same) ∙ ap read_type is)
