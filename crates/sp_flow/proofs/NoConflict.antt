-- The fourth fact: no invocation meets a conflict. Two changes of one place agree, and one change names no place twice, since
-- each of its bound variables stands alone as one argument.
use Rattle.std.proofs.Common.{◌≡◌, refl, sym, ◌∙◌, ap, subst, arith, ℕ, suc, ◌+◌, ◌-◌, ◌<◌, Bool, true, false, List, [], ◌∷◌, ◌++◌, length, get_or, Some, None, nat_lt}
use Rattle.std.specs.Prelude.{slice_get}
use Rattle.std.proofs.Math.Seq.{get_or-append_right}
use Rattle.std.proofs.lemmas.Bool.Decides.{Decides-ltb}
use Rattle.sp_values.specs.declared.value.Value.{Value}
use Rattle.sp_values.specs.declared.value.Value.TheVariants as value
use Rattle.sp_values.specs.declared.place.Invocation.{Invocation}
use Rattle.sp_core.specs.declared.function.Function.{Function}
use Rattle.sp_core.specs.Effects.{GuardedChange, changes_in, effect_trees}
use Rattle.sp_core.specs.Instances.{Filling, IsInstance, machine_of, sizes_of}
use Rattle.sp_core.specs.Machine.{ConflictByRank, IsInvocation, IsInvocationOf, IsState, IsTrueChange, Machine, MeetsConflict, first_exception, given, target, types_of}
use Rattle.sp_core.specs.Parts.{Parts, signature}
use Rattle.sp_core.specs.Values.{Store, look, nth}
use Rattle.sp_core.specs.WellFormed.{IsWellFormed}
use Rattle.sp_core.proofs.Bindings.{bindings_typed, length_values}
use Rattle.sp_core.proofs.EffectsTyped.{alone_once, alone_same}
use Rattle.sp_core.proofs.Elements.{index_of}
use Rattle.sp_core.proofs.RankLemmas.{among_rank}
use Rattle.sp_core.proofs.StatesTyped.{args_typed, stage_typed}
use Rattle.sp_flow.specs.Flows.{CallFlows, FlowsUpward}
use Rattle.sp_flow.proofs.Exceptions.{denied}

same_list : (cs ds : List Value) → length cs ≡ length ds → ((j : ℕ) → j < length cs → nth cs j ≡ nth ds j) → cs ≡ ds
same_list [] [] e h = refl
same_list [] (d ∷ ds) e h = cc
same_list (c ∷ cs) [] e h = cc
same_list (c ∷ cs) (d ∷ ds) e h = let n : length cs ≡ length ds = omega (arith, e) in λ i. h 0 (omega arith) i ∷ same_list cs ds n (λ j l. h (suc j) (omega (arith, l))) i

module _ (p : Parts) (i : Filling) (wf : IsWellFormed p) (inst : IsInstance p i) where
  abbrev m : Machine
  m = machine_of p i

  module _ (inv : Invocation) (f : Function) (call : IsInvocationOf m inv f) where
    abbrev all : List GuardedChange
    all = changes_in (effect_trees f.kind)

    module _ (s u : Store) (flows : CallFlows m s u inv f) where
      -- the values with which a change names a place are determined by the place
      once : (a : GuardedChange) (cs ds : List Value) → IsTrueChange m s inv (changes_in (effect_trees f.kind)) a cs → IsTrueChange m s inv (changes_in (effect_trees f.kind)) a ds → target m s u inv a cs ≡ target m s u inv a ds → cs ≡ ds
      once a cs ds c d e =
          let xs = types_of f.formals in
          let lk : length inv.args ≡ length xs = length_values (sizes_of p i) xs inv.args (args_typed p i wf inst inv f call) in
          let lc : length cs ≡ length a.vars = length_values (sizes_of p i) a.vars cs (bindings_typed m.world a.vars cs c.bindings) in
          let ld : length ds ≡ length a.vars = length_values (sizes_of p i) a.vars ds (bindings_typed m.world a.vars ds d.bindings) in
          let read : (ys : List Value) (j : ℕ) → nth (inv.args ++ ys) (length xs + j) ≡ nth ys j = λ ys j.
          let left : length xs + j - length inv.args ≡ j = omega (arith, lk) in
          get_or-append_right inv.args ys (length xs + j) value.Unknown (omega (arith, lk)) ∙ ap (λ n. get_or ys n value.Unknown) left in
          let injective = alone_once (signature p) xs inv.fun f.kind (wf.functions inv.fun f call.function).kind a c.of in
          same_list cs ds (lc ∙ sym ld) (λ j l.
          let one = injective j (omega (arith, l, lc)) in
          sym (read cs j) ∙ alone_same m.world (look m.world m.functions s) (look m.world m.functions u) (length xs + j) a.args (inv.args ++ cs) (inv.args ++ ds) (omega (arith, one)) e ∙ read ds j)

      -- two changes that are made and name one place give it one value
      one_given : (a b : GuardedChange) (cs ds : List Value) → IsTrueChange m s inv (changes_in (effect_trees f.kind)) a cs → IsTrueChange m s inv (changes_in (effect_trees f.kind)) b ds → a.fun ≡ b.fun → target m s u inv a cs ≡ target m s u inv b ds → given m s u inv a cs ≡ given m s u inv b ds
      one_given a b cs ds c d same e = by_index (index_of all a c.of) (index_of all b d.of)
        where
          by_index : (j : ℕ) × (slice_get all j ≡ Some a) → (k : ℕ) × (slice_get all k ≡ Some b) → given m s u inv a cs ≡ given m s u inv b ds
          by_index j k = first (nat_lt j.0 k.0) refl
            where
              one_change : j.0 ≡ k.0 → given m s u inv a cs ≡ given m s u inv b ds
              one_change z =
                  let there : Some a ≡ Some b = sym j.1 ∙ ap (slice_get all) z ∙ k.1 in
                  let own : a ≡ b = cc in
                  subst (λ b. IsTrueChange m s inv all b ds → target m s u inv a cs ≡ target m s u inv b ds → given m s u inv a cs ≡ given m s u inv b ds) own
                  (λ d e. ap (given m s u inv a) (once a cs ds c d e)) d e

              second : (q : Bool) → nat_lt k.0 j.0 ≡ q → nat_lt j.0 k.0 ≡ false → given m s u inv a cs ≡ given m s u inv b ds
              second true l n = sym (flows.agreement k.0 j.0 b a ((Decides-ltb k.0 j.0).0 l) k.1 j.1 ds cs d.bindings c.bindings d.held c.held (sym same) (sym e))
              second false l n = one_change (grind (arith, l, n))

              first : (q : Bool) → nat_lt j.0 k.0 ≡ q → given m s u inv a cs ≡ given m s u inv b ds
              first true l = flows.agreement j.0 k.0 a b ((Decides-ltb j.0 k.0).0 l) j.1 k.1 cs ds c.bindings d.bindings c.held d.held same e
              first false l = second (nat_lt k.0 j.0) refl l

    -- no rank is in conflict
    none_in_conflict : FlowsUpward m → (s : Store) → IsState m s → first_exception m s inv f ≡ None → ConflictByRank m s inv (changes_in (effect_trees f.kind)) → ⊥
    none_in_conflict flow s state plain (k, u, c) =
        let flows = flow.calls s u inv f state (stage_typed p i wf inst inv f call s state k u c.before) call (denied m s inv f plain) in
        let pair = c.conflict.4 in
        pair.values (one_given s u flows c.conflict.0 c.conflict.1 c.conflict.2 c.conflict.3
        (record { of = among_rank all k c.conflict.0 pair.first.of; bindings = pair.first.bindings; held = pair.first.held })
        (record { of = among_rank all k c.conflict.1 pair.second.of; bindings = pair.second.bindings; held = pair.second.held }) pair.function pair.arguments)

  pub no_conflict : FlowsUpward (machine_of p i) → (s : Store) → IsState (machine_of p i) s → (inv : Invocation) → IsInvocation (machine_of p i) inv → MeetsConflict (machine_of p i) s inv → ⊥
  no_conflict flow s state inv (f, call) (g, c) =
      let there : Some g ≡ Some f = sym c.function ∙ call.function in
      let same : g ≡ f = cc in
      none_in_conflict inv f call flow s state (subst (λ (h : Function). first_exception m s inv h ≡ None) same c.plain) (subst (λ (h : Function). ConflictByRank m s inv (changes_in (effect_trees h.kind))) same c.conflict)
