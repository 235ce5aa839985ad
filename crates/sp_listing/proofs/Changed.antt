-- What a list of the true changes has to do with the relation between the states before and after them.
use Rattle.std.proofs.Common.{◌≡◌, refl, sym, ◌∙◌, ap, ℕ, List, Option, Some, None}
use Rattle.std.specs.Prelude.{take}
use Rattle.sp_values.specs.declared.value.Value.{Value}
use Rattle.sp_values.specs.declared.place.Place.{Place}
use Rattle.sp_values.specs.declared.place.Invocation.{Invocation}
use Rattle.sp_core.specs.declared.state.Entry.{Entry}
use Rattle.sp_core.specs.Effects.{GuardedChange}
use Rattle.sp_core.specs.Machine.{Changes, Conflict, IsTrueChange, Machine, target}
use Rattle.sp_core.specs.Values.{Store}
use Rattle.sp_core.specs.States.{entry_of}
use Rattle.sp_eval.specs.Overlays.{overlay, upper_or}
use Rattle.sp_listing.specs.Listing.{AreAlike, IsFirstConflict}
use Rattle.sp_listing.specs.True.{AreOf, entry_with}
use Rattle.sp_listing.proofs.Maps.{entry_from, slice_get-take}

module _ (m : Machine) (s u : Store) (i : Invocation) (as' : List GuardedChange) (es : List Entry) (of : AreOf m s u i as' es) where
  -- without a conflict, the map of the list over the base is the state after the changes
  pub changed : AreAlike es → Changes m s u i as' (overlay (entry_of es) u)
  changed alike = record {
    named = λ a cs t. let there = of.complete a cs t in
        ap (λ (o : Option Value). upper_or o (u a.fun (target m s u i a cs))) (alike there.0 (entry_with m s u i a cs) there.1);
    others = λ g v none. ap (λ (o : Option Value). upper_or o (u g v)) (nothing g v none (entry_of es g v) refl);
  }
    where
      nothing : (g : ℕ) (v : List Value) → ((a : GuardedChange) (cs : List Value) → IsTrueChange m s i as' a cs → a.fun ≡ g → target m s u i a cs ≡ v → ⊥)
          → (o : Option Value) → entry_of es g v ≡ o → entry_of es g v ≡ None
      nothing g v none None e = e
      nothing g v none (Some x) e =
          let r = entry_from es g v x e in
          let q = of.sound r.0 r.1 r.2 in
          absurd (none q.0 q.1 q.2 (ap (λ (y : Entry). y.place.fun) (sym q.3) ∙ r.3) (ap (λ (y : Entry). y.place.args) (sym q.3) ∙ r.4))

  -- a first conflict is one of two true changes
  pub clashes : (p : Place) (x y : Value) → IsFirstConflict es p x y → Conflict m s u i as'
  clashes p x y h =
      let r = entry_from (take h.0 es) p.fun p.args x h.1.first in
      let before = of.sound r.0 r.1 (slice_get-take es h.0 r.0 r.1 r.2) in
      let later = of.sound h.0 (record { place = p; value = y }) h.1.there in (
        before.0,
        later.0,
        before.1,
        later.1,
        record {
          first = before.2;
          second = later.2;
          function = ap (λ (e : Entry). e.place.fun) (sym before.3) ∙ r.3 ∙ ap (λ (e : Entry). e.place.fun) later.3;
          arguments = ap (λ (e : Entry). e.place.args) (sym before.3) ∙ r.4 ∙ ap (λ (e : Entry). e.place.args) later.3;
          values = λ same. h.1.other (sym r.5 ∙ ap (λ (e : Entry). e.value) before.3 ∙ same ∙ ap (λ (e : Entry). e.value) (sym later.3));
        },
      )
