-- In an admissible instance each instance of an assertion is TRUE, whatever the values of the formula's variables.
use Rattle.std.proofs.Common.{◌≡◌, refl, sym, ◌∙◌, ap, subst, arith, ℕ, zero, suc, ◌+◌, ◌<◌, Bool, true, false, ◌||◌, List, [], ◌∷◌, length, map, Some}
use Rattle.std.specs.Prelude.{IsTrue, if◌then◌else◌, slice_get}
use Rattle.std.specs.List.{All}
use Rattle.std.proofs.lemmas.Option.{slice_get_within}
use Rattle.std.proofs.lemmas.List.{append-nil}
use Rattle.std.proofs.lemmas.List.Elements.{All-append, All-cons, All-head, All-map, All-nil, All-tail, All-weaker}
use Rattle.sp_values.specs.declared.value.Value.{Value}
use Rattle.sp_values.specs.declared.value.Value.TheVariants as value
use Rattle.sp_values.specs.declared.value.Ty.{Ty}
use Rattle.sp_values.specs.declared.value.Ty.TheVariants as ty
use Rattle.sp_values.specs.Domains.{are_values, has_unknown, is_value}
use Rattle.sp_values.specs.Identity.{same_value}
use Rattle.sp_core.specs.declared.function.Assertion.{Assertion}
use Rattle.sp_core.specs.Instances.{Filling, IsAdmissible, IsAsserted, world_of}
use Rattle.sp_core.specs.Machine.{AreBindings, types_of}
use Rattle.sp_core.specs.Measures.{Nothing}
use Rattle.sp_core.specs.Parts.{Parts, signature}
use Rattle.sp_values.specs.declared.value.Op.TheVariants as op
use Rattle.sp_core.specs.Tree.{Tree, Two, tree}
use Rattle.sp_core.specs.Typing.{is_finite}
use Rattle.sp_core.specs.Values.{Reads, is_true, nothing, nth, value_of}
use Rattle.sp_core.specs.WellFormed.{IsAssertion, IsWellFormed}
use Rattle.sp_core.proofs.Agree.{value_agrees}
use Rattle.sp_core.proofs.Types.{and_true}
use Rattle.sp_core.proofs.Bindings.{length_values, proper_of}
use Rattle.sp_formulas.specs.Assertions.{instance_of, instanced, instances, instances_of, is_unknown, shielded, tuples}
use Rattle.sp_formula_laws.proofs.TypedTuples.{IsTuple, tuples_are}
use Rattle.sp_hold.specs.Holding.{IsTrueOver}
use Rattle.sp_hold.proofs.Scopes.{IsScoped}
use Rattle.sp_hold.proofs.AssertionLemmas.{value-instanced}
use Rattle.sp_hold.proofs.Scoped.{scoped}

module _ (p : Parts) (fill : Filling) (wf : IsWellFormed p) (admits : IsAdmissible p fill) (r n : Reads) (vars : List Ty) (x : List Value) (typed : are_values (world_of p fill).sizes vars x ≡ true) where
  abbrev Held : Tree → Type 0
  Held e = IsTrueOver (world_of p fill) r n x e

  value_there : (us : List Ty) (y : List Value) (k : ℕ) (t : Ty) → are_values (world_of p fill).sizes us y ≡ true → slice_get us k ≡ Some t → is_value (world_of p fill).sizes t (nth y k) ≡ true
  value_there [] y k t a e = cc
  value_there (u ∷ us) [] k t a e = cc
  value_there (u ∷ us) (v ∷ y) zero t a e = let q : u ≡ t = cc in subst (λ t. is_value (world_of p fill).sizes t v ≡ true) q (and_true (is_value (world_of p fill).sizes u v) (are_values (world_of p fill).sizes us y) a).0
  value_there (u ∷ us) (v ∷ y) (suc k) t a e = value_there us y k t (and_true (is_value (world_of p fill).sizes u v) (are_values (world_of p fill).sizes us y) a).1 e

  shield : (ts : List Ty) (ks : List ℕ) (b : Tree) → IsTuple vars ts ks → All (λ t. IsTrue (is_finite (signature p) t)) ts → (AreBindings (world_of p fill) ts (map (nth x) ks) → IsTrueOver (world_of p fill) r n x b) → IsTrueOver (world_of p fill) r n x (shielded ks ts b)
  shield [] [] b tuple finite h = h tt
  shield [] (k ∷ ks) b tuple finite h = absurd tuple
  shield (t ∷ ts) [] b tuple finite h = absurd tuple
  shield (t ∷ ts) (k ∷ ks) b tuple finite h =
      by (λ known. shield ts ks b tuple.1 (All-tail (λ t. IsTrue (is_finite (signature p) t)) t ts finite)
      (λ bound. h (proper_of (signature p) (world_of p fill).sizes t (nth x k) (All-head (λ t. IsTrue (is_finite (signature p) t)) t ts finite) (value_there vars x k t typed tuple.0) known, bound)))
      (has_unknown t) refl (same_value (nth x k) value.Unknown) refl
    where
      either : (q : Bool) → same_value (nth x k) value.Unknown ≡ q → (a : Bool) → (q ≡ false → a ≡ true) → (same_value (nth x k) value.Unknown || a) ≡ true
      either true e a g = ap (λ c. c || a) e
      either false e a g = ap (λ c. c || a) e ∙ g refl

      by : ((has_unknown t ≡ true → same_value (nth x k) value.Unknown ≡ false) → IsTrueOver (world_of p fill) r n x (shielded ks ts b)) → (c : Bool) → has_unknown t ≡ c → (q : Bool) → same_value (nth x k) value.Unknown ≡ q
          → IsTrueOver (world_of p fill) r n x (if c then Two op.Or (is_unknown k) (shielded ks ts b) else shielded ks ts b)
      by rest true e q g = either q g (is_true (value_of (world_of p fill) r n x (shielded ks ts b))) (λ no. rest (λ u. g ∙ no))
      by rest false e q g = rest (λ u. let no : true ≡ false = sym u ∙ e in cc)

  tuple_small : (ts : List Ty) (ks : List ℕ) → IsTuple vars ts ks → All (λ k. k < length x) ks
  tuple_small [] [] h = All-nil (λ k. k < length x)
  tuple_small [] (k ∷ ks) h = absurd h
  tuple_small (t ∷ ts) [] h = absurd h
  tuple_small (t ∷ ts) (k ∷ ks) h =
      All-cons (λ k. k < length x) k ks (let less = slice_get_within vars k t h.0 in let long = length_values (world_of p fill).sizes vars x typed in omega (arith, less, long)) (tuple_small ts ks h.1)

  tuple_length : (ts : List Ty) (ks : List ℕ) → IsTuple vars ts ks → length ks ≡ length ts
  tuple_length [] [] h = refl
  tuple_length [] (k ∷ ks) h = absurd h
  tuple_length (t ∷ ts) [] h = absurd h
  tuple_length (t ∷ ts) (k ∷ ks) h = ap suc (tuple_length ts ks h.1)

  one_held : (a : Assertion) → IsAssertion (signature p) a → IsAsserted (world_of p fill) a → (ks : List ℕ) → IsTuple vars (types_of a.vars) ks → IsTrueOver (world_of p fill) r n x (instance_of (length vars) a ks)
  one_held a fine asserted ks tuple = shield (types_of a.vars) ks (instanced ks (length vars) (tree a.body)) tuple fine.variables (λ bound.
      let w = world_of p fill in
      let long : length x ≡ length vars = length_values w.sizes vars x typed in
      let many : length ks + 0 ≡ length (types_of a.vars) = omega (arith, tuple_length (types_of a.vars) ks tuple) in
      let own : IsScoped (length ks + 0) (tree a.body) = subst (λ m. IsScoped m (tree a.body)) (sym many) (scoped (signature p) (types_of a.vars) (tree a.body) ty.Boolean fine.body.typed) in
      let moved = value-instanced w r n x ks (tuple_small (types_of a.vars) ks tuple) (tree a.body) [] own in
      let same = value_agrees w r n nothing nothing Nothing (λ g v no. absurd no) (tree a.body) (map (nth x) ks) fine.reads_nothing in
      ap (λ m. is_true (value_of w r n x (instanced ks m (tree a.body)))) (sym long)
      ∙ ap (λ y. is_true (value_of w r n y (instanced ks (length x) (tree a.body)))) (sym (append-nil x)) ∙ ap is_true moved
      ∙ ap (λ y. is_true (value_of w r n y (tree a.body))) (append-nil (map (nth x) ks)) ∙ ap is_true same ∙ asserted (map (nth x) ks) bound)

  each_held : (as' : List Assertion) → All (IsAssertion (signature p)) as' → All (IsAsserted (world_of p fill)) as' → All (IsTrueOver (world_of p fill) r n x) (instances as' vars)
  each_held [] h k = All-nil (IsTrueOver (world_of p fill) r n x)
  each_held (a ∷ as') h k =
      All-append (IsTrueOver (world_of p fill) r n x) (instances_of vars a) (instances as' vars)
      (All-map (IsTrueOver (world_of p fill) r n x) (instance_of (length vars) a) (tuples vars (types_of a.vars))
      (All-weaker (IsTuple vars (types_of a.vars)) (λ ks. IsTrueOver (world_of p fill) r n x (instance_of (length vars) a ks)) (λ ks t. one_held a (All-head (IsAssertion (signature p)) a as' h) (All-head (IsAsserted (world_of p fill)) a as' k) ks t) (tuples vars (types_of a.vars)) (tuples_are vars (types_of a.vars))))
      (each_held as' (All-tail (IsAssertion (signature p)) a as' h) (All-tail (IsAsserted (world_of p fill)) a as' k))

  pub asserted : All (IsTrueOver (world_of p fill) r n x) (instances p.assertions vars)
  asserted = each_held p.assertions wf.assertions admits
