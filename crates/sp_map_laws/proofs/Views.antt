-- Where the formulas of a specification and of a mapping to it hold, its views hide what is above: the final states are alike
-- at the level, and a row that is seen there reads nothing above it.
use Rattle.std.proofs.Common.{◌≡◌, sym, ap, subst, arith, ℕ, ◌<◌, true, List, [], ◌∷◌, ◌++◌, inl, inr}
use Rattle.std.specs.Prelude.{IsTrue}
use Rattle.std.specs.List.{All, Contains, flat_map}
use Rattle.std.proofs.lemmas.List.{append-nil}
use Rattle.std.proofs.lemmas.List.Elements.{All-contains, All-contains_itself, All-head, All-tail, All-weaker, Contains-append_left, Contains-append_right}
use Rattle.sp_values.specs.declared.place.Invocation.{Invocation}
use Rattle.sp_values.specs.declared.value.Ty.{Ty}
use Rattle.sp_values.specs.declared.value.Ty.TheVariants as ty
use Rattle.sp_values.specs.declared.value.Value.{Value}
use Rattle.sp_values.specs.Domains.{are_proper, are_values}
use Rattle.sp_core.specs.declared.function.Answer.{Answer}
use Rattle.sp_core.specs.declared.mapping.MapRow.{MapRow}
use Rattle.sp_core.specs.declared.mapping.Mapping.{Mapping}
use Rattle.sp_core.specs.Instances.{Filling, IsAdmissible, IsInstance, machine_of, sizes_of, world_of}
use Rattle.sp_core.specs.Machine.{IsInvocation, IsState, Run, types_of, value_at}
use Rattle.sp_core.specs.Mappings.{IsMappingTo, IsRow}
use Rattle.sp_core.specs.Measures.{Nothing}
use Rattle.sp_core.specs.Parts.{Parts, signature}
use Rattle.sp_core.specs.Security.{Alike}
use Rattle.sp_core.specs.Tree.{tree}
use Rattle.sp_core.specs.Typing.{HasType}
use Rattle.sp_core.specs.Values.{Store, level_number, look, nothing, value_of}
use Rattle.sp_core.specs.WellFormed.{IsWellFormed}
use Rattle.sp_core.proofs.Agree.{value_agrees}
use Rattle.sp_core.proofs.Bindings.{arguments_typed}
use Rattle.sp_core.proofs.Elements.{Contains-cons, Contains-nil}
use Rattle.sp_core.proofs.StatesTyped.{step_typed}
use Rattle.sp_core.proofs.Types.{level_below, typed}
use Rattle.sp_lattice.specs.Order.{is_below}
use Rattle.sp_flow.specs.Flows.{FlowsUpward}
use Rattle.sp_flow.proofs.Reference.{reference}
use Rattle.sp_flow.proofs.Secure.{secure}
use Rattle.sp_claims.specs.Models.{HoldsIn}
use Rattle.sp_claims.proofs.Against.{closed_claims_hold}
use Rattle.sp_formulas.specs.Formulas.{Formula, formulas}
use Rattle.sp_formulas.specs.Typed.{AreTypedFormulas, IsTypedFormula}
use Rattle.sp_formula_laws.proofs.TypedFormulas.{formulas_typed}
use Rattle.sp_hold.specs.Holding.{AllHold, AllHoldIn, claim}
use Rattle.sp_hold.proofs.Flow.{flows_upward}
use Rattle.sp_hold.proofs.Gives.{args_known, typed_reads}
use Rattle.sp_map_formulas.specs.Rows.{map_formulas, row_formulas, row_spot}
use Rattle.sp_map_formulas.proofs.TypedRows.{map_formulas_typed}
use Rattle.sp_map_laws.specs.Laws.{IsClosed}
use Rattle.sp_map_laws.specs.Views.{HidesViews, row_level}

-- a row's formulas stand in the list
row_listed : (p : Parts) (rows : List MapRow) (r : MapRow) (q : Formula) → Contains rows r → Contains (row_formulas p r) q → Contains (flat_map (row_formulas p) rows) q
row_listed p [] r q of c = absurd (Contains-nil r of)
row_listed p (x ∷ rows) r q of c = elim (Contains-cons x rows r of) [
  | inl e ↦ Contains-append_left (row_formulas p x) (flat_map (row_formulas p) rows) q (subst (λ x. Contains (row_formulas p x) q) (sym e) c)
  | inr k ↦ Contains-append_right (row_formulas p x) (flat_map (row_formulas p) rows) q (row_listed p rows r q k c)
]

module _ (p : Parts) (wf : IsWellFormed p) (m : Mapping) (mapping : IsMappingTo p m) where
  module _ (i : Filling) (inst : IsInstance p i) (admits : IsAdmissible p i) (holds : AllHoldIn (machine_of p i) (formulas p)) (own : AllHoldIn (machine_of p i) (map_formulas p m)) where
    flow : FlowsUpward (machine_of p i)
    flow = flows_upward p i wf inst admits holds

    -- a row that is seen has one value in alike states
    row_same : (l : ℕ) → l < p.lattice.count → (s t : Store) → IsState (machine_of p i) s → Alike (machine_of p i) l s t → (r : MapRow) → Contains m.functions r → (v : List Value) → are_proper (sizes_of p i) (types_of r.formals) v ≡ true
        → IsTrue (is_below p.lattice (row_level (world_of p i) r v) l) → value_at (machine_of p i) s v (tree r.value) ≡ value_at (machine_of p i) t v (tree r.value)
    row_same l is_level s t state alike r of v proper low =
        let w = world_of p i in
        let rd = look w p.functions s in
        let xs = types_of r.formals in
        let row = All-contains (λ (r : MapRow). (t : Ty) × IsRow (signature p) r t) m.functions r mapping.rows of in
        let values : are_values (sizes_of p i) xs v ≡ true = arguments_typed (sizes_of p i) xs v proper in
        let top = level_number (value_of w rd rd v (tree r.level)) in
        let same : row_level w r v ≡ top = ap level_number (value_agrees w nothing nothing rd rd Nothing (λ g y no. absurd no) (tree r.level) v row.1.level_reads_nothing) in
        let is_top : top < p.lattice.count = level_below (sizes_of p i) (value_of w rd rd v (tree r.level)) (typed p i wf inst s s state state xs v (tree r.level) ty.Level values row.1.level.typed) in
        let whole : xs ≡ xs ++ [] = sym (append-nil xs) in
        reference p i wf inst flow.derivations l is_level s s t t state state alike alike top is_top (subst (λ k. IsTrue (is_below p.lattice k l)) same low) (tree r.value) xs v row.0 values row.1.value.typed
        (typed_reads p i wf inst admits s s (row_spot r) (tree r.value) row.0 (subst (λ ys. HasType (signature p) ys (tree r.value) row.0) whole row.1.value.typed) (subst (λ ys. HasType (signature p) ys (tree r.level) ty.Level) whole row.1.level.typed)
        (λ q c. All-contains (λ o. HoldsIn (machine_of p i) (claim o)) (map_formulas p m) q own (row_listed p m.functions r q of c) s s state state)
        v (subst (λ ys. are_values (sizes_of p i) ys v ≡ true) whole values) (omega arith) (args_known (sizes_of p i) xs v proper))

    -- a run leads from states to states
    run_typed : (is' : List Invocation) (as' : List Answer) (s t : Store) → IsState (machine_of p i) s → All (IsInvocation (machine_of p i)) is' → Run (machine_of p i) s is' as' t → IsState (machine_of p i) t
    run_typed [] [] s t state calls h = subst (IsState (machine_of p i)) (sym h) state
    run_typed [] (a ∷ as') s t state calls h = absurd h
    run_typed (c ∷ is') [] s t state calls h = absurd h
    run_typed (c ∷ is') (a ∷ as') s t state calls h =
        run_typed is' as' h.0 t (step_typed p i wf inst s state c a h.0 (All-head (IsInvocation (machine_of p i)) c is' calls) h.1) (All-tail (IsInvocation (machine_of p i)) c is' calls) h.2

  pub views : AllHold p (formulas p) → AllHold p (map_formulas p m) → HidesViews p m
  views holds own i inst admits l s t is' is_level state state_t alike calls as' bs s' t' run purged =
      let here = holds i inst admits in
      let mine = own i inst admits in
      let after = (secure p i wf inst (flows_upward p i wf inst admits here)).hides_above.hides l s t is' is_level state state_t alike calls as' bs s' t' run purged in
      record {
        same = λ r v seen. row_same i inst admits here mine l is_level s' t' (run_typed i inst admits here mine is' as' s s' state calls run) after.1 r seen.of v seen.proper seen.below;
      }

  -- typed formulas without an open branch hold
  closed_hold : (os : List Formula) → AreTypedFormulas p os → All (IsClosed p) os → AllHold p os
  closed_hold os typed closed i inst admits =
      All-weaker (Contains os) (λ o. HoldsIn (machine_of p i) (claim o)) (λ o c.
      let own = All-contains (IsTypedFormula p) os o typed c in
      closed_claims_hold p (claim o) wf (record { hypotheses = own.hypotheses; goal = own.goal }) (All-contains (IsClosed p) os o closed c) i inst) os (All-contains_itself os)

  pub closed_views : All (IsClosed p) (formulas p) → All (IsClosed p) (map_formulas p m) → HidesViews p m
  closed_views closed own = views (closed_hold (formulas p) (formulas_typed p wf) closed) (closed_hold (map_formulas p m) (map_formulas_typed p wf m mapping) own)
