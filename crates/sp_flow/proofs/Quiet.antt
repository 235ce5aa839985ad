-- The second fact: an invocation that isn't at or below a level leaves the state alike there. Each change that is made names a
-- place above the invocation's level, so none below; by induction on ranks.
use Rattle.std.proofs.Common.{◌≡◌, refl, sym, subst, ℕ, zero, suc, ◌<◌, false, List, Option, Some, None}
use Rattle.std.specs.Prelude.{IsTrue}
use Rattle.std.specs.List.{All, Contains}
use Rattle.sp_values.specs.declared.place.Invocation.{Invocation}
use Rattle.sp_lattice.specs.Order.{is_below}
use Rattle.sp_core.specs.declared.function.Answer.{Answer}
use Rattle.sp_core.specs.declared.function.Function.{Function}
use Rattle.sp_core.specs.Effects.{GuardedChange, changes_in, effect_trees}
use Rattle.sp_core.specs.Instances.{Filling, IsInstance, machine_of}
use Rattle.sp_core.specs.Machine.{Changes, IsHeld, IsInvocation, IsInvocationOf, IsState, Machine, Outcome, Stage, Step, StepOf, first_exception, target}
use Rattle.sp_core.specs.Parts.{Parts}
use Rattle.sp_core.specs.Ranks.{of_rank, rank_count}
use Rattle.sp_core.specs.Security.{Alike, is_seen}
use Rattle.sp_core.specs.Values.{Store}
use Rattle.sp_core.specs.WellFormed.{IsWellFormed}
use Rattle.sp_core.proofs.Agree.{Alike-trans}
use Rattle.sp_core.proofs.Levels.{same_entry}
use Rattle.sp_core.proofs.RankLemmas.{among_rank}
use Rattle.sp_core.proofs.StatesTyped.{own_step, stage_typed}
use Rattle.sp_flow.specs.Flows.{CallFlows, FlowsUpward, IsUnder, call_level, denials, place_level}
use Rattle.sp_flow.proofs.Calls.{call_is_level, not_under, place_is_level}
use Rattle.sp_flow.proofs.Exceptions.{denied}

module _ (p : Parts) (i : Filling) (wf : IsWellFormed p) (inst : IsInstance p i) (flow : FlowsUpward (machine_of p i)) (l : ℕ) (is_level : l < p.lattice.count) where
  abbrev m : Machine
  m = machine_of p i

  module _ (inv : Invocation) (f : Function) (call : IsInvocationOf m inv f) (above : IsUnder m l inv.fun inv.args → ⊥) (s : Store) (state : IsState m s) where
    abbrev all : List GuardedChange
    all = changes_in (effect_trees f.kind)

    -- changes that are made leave the base alike at l
    quiet_changes : (u t : Store) (as' : List GuardedChange) → IsState m u → CallFlows m s u inv f → ((a : GuardedChange) → Contains as' a → Contains (changes_in (effect_trees f.kind)) a) → Changes m s u inv as' t → Alike m l u t
    quiet_changes u t as' new_state flows among made = record {
      same = λ g v low. same_entry p i wf u t g v low.place (made.others g v (λ a cs c e q.
          let up = (flows.changes a cs (among a c.of) c.bindings).upward c.held in
          let there : IsTrue (is_below p.lattice (place_level m s u inv a cs) l) = subst (λ h. IsUnder m l h (target m s u inv a cs)) (sym e) (subst (IsUnder m l g) (sym q) low.below) in
          above (wf.lattice.partial.transitive (call_level m inv) (place_level m s u inv a cs) l (call_is_level p i wf inst inv f call) (place_is_level p i wf inst inv f call s u state new_state a cs (among a c.of) c.bindings) is_level up there)));
    }

    quiet_stages : All (IsHeld m s inv.args) (denials f) → (k : ℕ) (u : Store) → Stage m s inv (changes_in (effect_trees f.kind)) k u → Alike m l s u
    quiet_stages plain zero u h = subst (Alike m l s) (sym h) (record { same = λ g v low. refl })
    quiet_stages plain (suc k) u h =
        let new_state = stage_typed p i wf inst inv f call s state k h.0 h.1 in
        Alike-trans m l s h.0 u (quiet_stages plain k h.0 h.1) (quiet_changes h.0 u (of_rank all k) new_state (flow.calls s h.0 inv f state new_state call plain) (among_rank all k) h.2)

    quiet_outcome : (a : Answer) (t : Store) → StepOf m s inv a t f → Alike m l s t
    quiet_outcome a t h = by (first_exception m s inv f) refl h.outcome
      where
        by : (o : Option ℕ) → first_exception m s inv f ≡ o → Outcome m s inv f o a t → Alike m l s t
        by (Some n) e h = subst (Alike m l s) (sym h.1) (record { same = λ g v low. refl })
        by None e h = quiet_stages (denied m s inv f e) (rank_count all) t h.0

  pub quiet_step : (s : Store) → IsState (machine_of p i) s → (inv : Invocation) → IsInvocation (machine_of p i) inv → is_seen (machine_of p i) l inv ≡ false → (a : Answer) (t : Store) → Step (machine_of p i) s inv a t → Alike (machine_of p i) l s t
  quiet_step s state inv call above a t h = quiet_outcome inv call.0 call.1 (not_under m l inv above) s state a t (own_step m s t inv a call.0 call.1 h)
