-- A claim on all proper values of variables, variable by variable, and the assertions of a specification as such claims.
use Rattle.std.proofs.Common.{◌≡◌, refl, sym, ◌∙◌, ap, subst, arith, ℕ, zero, suc, ◌+◌, ◌-◌, ◌<◌, ◌≤◌, Bool, true, List, [], ◌∷◌, ◌++◌, length, length-append, map, take, drop, get_or, Some, append_assoc, inl, inr}
use Rattle.std.specs.Prelude.{IsTrue, slice_get, ◌↔◌}
use Rattle.std.specs.List.{All, Contains, range_with_len}
use Rattle.std.proofs.lemmas.List.{append-nil, get_or_default, length-map}
use Rattle.std.proofs.lemmas.List.Elements.{All-tail}
use Rattle.std.proofs.lemmas.Option.{slice_get_read}
use Rattle.std.proofs.Math.Seq.{take-length}
use Rattle.sp_values.specs.declared.value.Ty.{Ty}
use Rattle.sp_values.specs.declared.value.Ty.TheVariants as ty
use Rattle.sp_values.specs.declared.value.Value.{Value}
use Rattle.sp_values.specs.Domains.{is_value, proper_values}
use Rattle.sp_core.specs.declared.function.Assertion.{Assertion}
use Rattle.sp_core.specs.declared.function.Formal.{Formal}
use Rattle.sp_core.specs.Instances.{IsAsserted}
use Rattle.sp_core.specs.Machine.{types_of}
use Rattle.sp_core.specs.Measures.{Nothing}
use Rattle.sp_core.specs.Parts.{signature}
use Rattle.sp_core.specs.Tree.{Tree, tree}
use Rattle.sp_core.specs.Typing.{HasType, is_finite}
use Rattle.sp_core.specs.Values.{World, is_true, nothing, value_of}
use Rattle.sp_core.specs.WellFormed.{IsAssertion}
use Rattle.sp_core.proofs.Agree.{value_agrees}
use Rattle.sp_core.proofs.Bindings.{are_values-append}
use Rattle.sp_core.proofs.Types.{both_true}
use Rattle.sp_core.proofs.Elements.{Contains-cons, Contains-nil, Contains-first, Contains-later}
use Rattle.sp_eval.specs.Admissible.{HoldsForAll, IsClaim}
use Rattle.sp_eval.specs.Settings.{IsReady, Setting, new_reads, old_reads, population, proper_at, sizes, tree_value, world}
use Rattle.sp_eval.proofs.Own.{reads_below}
use Rattle.sp_eval.proofs.Ready.{proper_at_typed, proper_values_at}

-- Formals

pub no_types : (vars : List Formal) → length vars < 1 → types_of vars ≡ []
no_types [] l = refl
no_types (v ∷ vars) l = absurd (omega (arith, l))

-- the types of the first formal and of the rest
pub first_type : (vars : List Formal) (f : Formal) → 1 ≤ length vars → f ≡ get_or vars 0 f → types_of vars ≡ f.ty ∷ types_of (take (length vars - 1) (drop 1 vars))
first_type [] f l e = absurd (omega (arith, l))
first_type (v ∷ vars) f l e =
    let one : length (v ∷ vars) - 1 ≡ length vars = omega arith in
    let rest : take (length (v ∷ vars) - 1) vars ≡ vars = ap (λ n. take n vars) one ∙ take-length vars in
    (λ i. (sym e i).ty ∷ types_of (sym rest i))

-- Proper values by number

proper_number : (g : ℕ → Value) (from n : ℕ) (c : Value) → Contains (map g (range_with_len from n)) c → (j : ℕ) × (from ≤ j) × (j < from + n) × (g j ≡ c)
proper_number g from zero c h = absurd (Contains-nil c h)
proper_number g from (suc n) c h = elim (Contains-cons (g from) (map g (range_with_len (from + 1) n)) c h) [
  | inl e ↦ (from, omega arith, omega arith, e)
  | inr k ↦
      let r = proper_number g (from + 1) n c k in
      (r.0, omega (arith, r.1), omega (arith, r.2), r.3)
]

numbered_proper : (g : ℕ → Value) (from n j : ℕ) → from ≤ j → j < from + n → Contains (map g (range_with_len from n)) (g j)
numbered_proper g from zero j a b = absurd (omega (arith, a, b))
numbered_proper g from (suc n) j a b = by (j - from) refl (λ l. numbered_proper g (from + 1) n j l (omega (arith, b)))
  where
    by : (d : ℕ) → j - from ≡ d → (from + 1 ≤ j → Contains (map g (range_with_len (from + 1) n)) (g j)) → Contains (g from ∷ map g (range_with_len (from + 1) n)) (g j)
    by zero q later = let same : from ≡ j = omega (arith, q, a) in subst (λ (j : ℕ). Contains (g from ∷ map g (range_with_len (from + 1) n)) (g j)) same (Contains-first (g from) (map g (range_with_len (from + 1) n)))
    by (suc d) q later = Contains-later (g from) (map g (range_with_len (from + 1) n)) (g j) (later (omega (arith, q)))

-- The claim

-- a claim for a type and more is one for each of its proper values
pub holds_all : (w : World) (t : Ty) (ts : List Ty) (x : List Value) (b : Tree) (n : ℕ) → n ≡ population w.sizes t → ((j : ℕ) → j < n → HoldsForAll w ts (x ++ proper_at t j ∷ []) b) → HoldsForAll w (t ∷ ts) x b
holds_all w t ts x b n e h [] bind = absurd bind
holds_all w t ts x b n e h (c ∷ cs) bind =
    let r = proper_number (proper_at t) 0 (population w.sizes t) c (subst (λ vs. Contains vs c) (sym (proper_values_at w.sizes t)) bind.0) in
    let here : IsTrue (is_true (value_of w nothing nothing ((x ++ proper_at t r.0 ∷ []) ++ cs) b)) = h r.0 (omega (arith, r.2, e)) cs bind.1 in
    let at : (x ++ proper_at t r.0 ∷ []) ++ cs ≡ x ++ (c ∷ cs) = append_assoc x (proper_at t r.0 ∷ []) cs ∙ ap (λ v. x ++ (v ∷ cs)) r.3 in
    subst (λ y. IsTrue (is_true (value_of w nothing nothing y b))) at here

pub holds_rest : (w : World) (t : Ty) (ts : List Ty) (x : List Value) (b : Tree) (j : ℕ) → j < population w.sizes t → HoldsForAll w (t ∷ ts) x b → HoldsForAll w ts (x ++ proper_at t j ∷ []) b
holds_rest w t ts x b j l h cs bind =
    let proper : Contains (proper_values w.sizes t) (proper_at t j) = subst (λ vs. Contains vs (proper_at t j)) (proper_values_at w.sizes t) (numbered_proper (proper_at t) 0 (population w.sizes t) j (omega arith) (omega (arith, l))) in
    subst (λ y. IsTrue (is_true (value_of w nothing nothing y b))) (sym (append_assoc x (proper_at t j ∷ []) cs)) (h (proper_at t j ∷ cs) (proper, bind))

module _ (s : Setting) where
  -- without variables the body is ready, and its value decides
  pub ready_claim : (ts : List Ty) (x : List Value) (b : Tree) → ts ≡ [] → IsClaim s ts x b → IsReady s 0 x b
  ready_claim [] x b e h = record {
    typed = (h.0, ty.Boolean, record { values = h.1.values; typed = subst (λ xs. HasType (signature s.parts) xs b ty.Boolean) (append-nil h.0) h.1.typed; room = omega (arith, h.1.room) });
    reads = reads_below s 0 Nothing Nothing (λ g n. absurd n) (λ g n. absurd n) b h.1.reads_nothing;
  }
  ready_claim (t ∷ ts) x b e h = cc

  pub holds_none : (ts : List Ty) (x : List Value) (b : Tree) → ts ≡ [] → IsClaim s ts x b → (v : Value) → v ≡ tree_value s x b → (r : Bool) → r ≡ is_true v → IsTrue r ↔ HoldsForAll (world s) ts x b
  holds_none (t ∷ ts) x b e h v q r i = cc
  holds_none [] x b e h v q r i = (forward, λ all. i ∙ ap is_true same ∙ ap (λ y. is_true (value_of (world s) nothing nothing y b)) (sym (append-nil x)) ∙ all [] tt)
    where
      same : v ≡ value_of (world s) nothing nothing x b
      same = q ∙ sym (value_agrees (world s) nothing nothing (old_reads s) (new_reads s) Nothing (λ g v n. absurd n) b x h.1.reads_nothing)

      forward : IsTrue r → HoldsForAll (world s) [] x b
      forward true_is [] bind = ap (λ y. is_true (value_of (world s) nothing nothing y b)) (append-nil x) ∙ ap is_true (sym same) ∙ sym i ∙ true_is
      forward true_is (c ∷ cs) bind = absurd bind

  -- a claim's rest, at a proper value of its first variable
  pub claim_rest : (t : Ty) (ts : List Ty) (x : List Value) (b : Tree) (j : ℕ) → IsClaim s (t ∷ ts) x b → j < population (sizes s) t → IsClaim s ts (x ++ proper_at t j ∷ []) b
  claim_rest t ts x b j h l =
      let typed : is_value (sizes s) t (proper_at t j) ≡ true = proper_at_typed (sizes s) t j l in
      let long : length (x ++ proper_at t j ∷ []) ≡ length x + 1 = length-append x (proper_at t j ∷ []) in (
        h.0 ++ t ∷ [],
        record {
          values = are_values-append (sizes s) h.0 (t ∷ []) x (proper_at t j ∷ []) h.1.values (both_true (is_value (sizes s) t (proper_at t j)) true typed refl);
          finite = All-tail (λ t. IsTrue (is_finite (signature s.parts) t)) t ts h.1.finite;
          typed = subst (λ xs. HasType (signature s.parts) xs b ty.Boolean) (sym (append_assoc h.0 (t ∷ []) ts)) h.1.typed;
          room = omega (arith, h.1.room, long);
          reads_nothing = h.1.reads_nothing;
        },
      )

  -- an assertion is a claim over no values
  pub assertion_claim : (a : Assertion) → IsAssertion (signature s.parts) a → IsClaim s (types_of a.vars) [] (tree a.body)
  assertion_claim a h =
      let many = length-map a.vars (λ p. p.ty) in
      ([], record { values = refl; finite = h.variables; typed = h.body.typed; room = omega (arith, h.few_quantifiers, many); reads_nothing = h.reads_nothing })

  -- the claim of an assertion, over the evaluator's setting and the code's lists
  module _ (r : Setting) (same : s ≡ r) (a : Assertion) (vars : List Formal) (own : vars ≡ a.vars) (x : List Value) (none : x ≡ []) where
    pub assertion_ready : IsAssertion (signature r.parts) a → IsClaim s (types_of vars) x (tree a.body)
    assertion_ready h =
        subst (λ x. IsClaim s (types_of vars) x (tree a.body)) (sym none) (subst (λ vars. IsClaim s (types_of vars) [] (tree a.body)) (sym own) (assertion_claim a (subst (λ (r : Setting). IsAssertion (signature r.parts) a) (sym same) h)))

    pub asserted : HoldsForAll (world s) (types_of vars) x (tree a.body) → IsAsserted (world r) a
    asserted h =
        subst (λ r. IsAsserted (world r) a) same (subst (λ vars. HoldsForAll (world s) (types_of vars) [] (tree a.body)) own (subst (λ x. HoldsForAll (world s) (types_of vars) x (tree a.body)) none h))

    pub not_asserted : (HoldsForAll (world s) (types_of vars) x (tree a.body) → ⊥) → ¬ IsAsserted (world r) a
    not_asserted fails h =
        fails (subst (λ x. HoldsForAll (world s) (types_of vars) x (tree a.body)) (sym none) (subst (λ vars. HoldsForAll (world s) (types_of vars) [] (tree a.body)) (sym own) (subst (λ r. IsAsserted (world r) a) (sym same) h)))

-- an assertion that the loop comes to stands in the list
pub listed : (as' bs : List Assertion) (k : ℕ) (a : Assertion) → as' ≡ bs → k < length as' → a ≡ get_or as' k a → slice_get bs k ≡ Some a
listed as' bs k a same l e = ap (λ as'. slice_get as' k) (sym same) ∙ slice_get_read as' (length as') k a refl l e

-- what holds at each index holds of all
pub all_listed : (P : Assertion → Type 0) (as' : List Assertion) → ((k : ℕ) → k < length as' → (a : Assertion) → slice_get as' k ≡ Some a → P a) → All P as'
all_listed P as' h k d l = h k l (get_or as' k d) (slice_get_read as' (length as') k (get_or as' k d) refl l (get_or_default as' k d (get_or as' k d) l))
