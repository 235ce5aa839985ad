-- What listing one more change does to the map of those listed, and what a clash tells.
use Rattle.std.proofs.Common.{◌≡◌, refl, sym, ◌∙◌, ap, subst, ℕ, suc, ◌<◌, ◌⊎◌, ⊎_elim, inl, inr, Bool, true, false, List, [], ◌∷◌, ◌++◌, take, length, Option, Some, None}
use Rattle.std.specs.Prelude.{if◌then◌else◌, is_some, slice_get}
use mathlib.Core.Path.{fun_ext}
use Rattle.sp_values.specs.declared.value.Value.{Value}
use Rattle.sp_core.specs.declared.state.Entry.{Entry}
use Rattle.sp_core.specs.Values.{Store}
use Rattle.sp_core.specs.States.{HasRoom, Held, entry_of}
use Rattle.sp_core.proofs.StateLemmas.{hit, hit-Decides}
use Rattle.sp_text.specs.declared.limits.TheConstants.{MOST_CHANGED_PLACES}
use Rattle.sp_eval.specs.Overlays.{upper_or}
use Rattle.sp_listing.specs.Listing.{AreAlike, IsAdded, IsClash, IsListFault, given_to}
use Rattle.sp_listing.specs.declared.listed.ListFault.{ListFault}
use Rattle.sp_listing.specs.declared.listed.ListFault.TheVariants as fault
use Rattle.sp_listing.proofs.Maps.{entry_of-append, hit-self, slice_get-last, take-next}

-- the changes before a number are alike, and their map is that of what is listed
pub record AreListed (es : List Entry) (k : ℕ) (listed : List Entry) : Type 0 where
  pub same : entry_of listed ≡ entry_of (take k es)
  pub alike : AreAlike (take k es)

over_itself : (b : Bool) (o : Option Value) (x : Value) → (b ≡ true → o ≡ Some x) → o ≡ upper_or o (if b then Some x else None)
over_itself b (Some y) x h = refl
over_itself true None x h = h refl
over_itself false None x h = refl

-- the map after one more change
map_added : (old new : List Entry) (e : Entry) → IsAdded old e.place e.value new → (g : ℕ) (v : List Value) → entry_of new g v ≡ entry_of (old ++ e ∷ []) g v
map_added old new e (inl h) g v =
    ap (λ xs. entry_of xs g v) h.1
    ∙ over_itself (hit e.place.fun e.place.args g v) (entry_of old g v) e.value (λ t. let q = (hit-Decides e.place.fun e.place.args g v).0 t in (λ i. entry_of old (sym q.0 i) (sym q.1 i)) ∙ h.0)
    ∙ sym (entry_of-append old (e ∷ []) g v)
map_added old new e (inr h) g v = ap (λ xs. entry_of xs g v) h.1

alike_added : (es : List Entry) (e : Entry) → AreAlike es → (given_to es e ≡ Some e.value) ⊎ (given_to es e ≡ None) → AreAlike (es ++ e ∷ [])
alike_added es e a h n x f = ⊎_elim before last (slice_get-last es e x n f)
  where
    before : slice_get es n ≡ Some x → given_to (es ++ e ∷ []) x ≡ Some x.value
    before q = entry_of-append es (e ∷ []) x.place.fun x.place.args ∙ ap (λ o. upper_or o (given_to (e ∷ []) x)) (a n x q)

    own : given_to (e ∷ []) e ≡ Some e.value
    own = ap (λ b. if b then Some e.value else None) (hit-self e.place.fun e.place.args)

    itself : (given_to es e ≡ Some e.value) ⊎ (given_to es e ≡ None) → given_to (es ++ e ∷ []) e ≡ Some e.value
    itself (inl q) = entry_of-append es (e ∷ []) e.place.fun e.place.args ∙ ap (λ o. upper_or o (given_to (e ∷ []) e)) q
    itself (inr q) = entry_of-append es (e ∷ []) e.place.fun e.place.args ∙ ap (λ o. upper_or o (given_to (e ∷ []) e)) q ∙ own

    last : e ≡ x → given_to (es ++ e ∷ []) x ≡ Some x.value
    last q = subst (λ y. given_to (es ++ e ∷ []) y ≡ Some y.value) q (itself h)

pub listed_next : (es old new : List Entry) (k : ℕ) (e : Entry) → slice_get es k ≡ Some e → AreListed es k old → IsAdded old e.place e.value new → AreListed es (suc k) new
listed_next es old new k e there h added = record {
  same = fun_ext (λ g. fun_ext (λ v. map_added old new e added g v ∙ entry_of-append old (e ∷ []) g v
      ∙ ap (λ (m : Store). upper_or (m g v) (entry_of (e ∷ []) g v)) h.same ∙ sym (entry_of-append (take k es) (e ∷ []) g v) ∙ ap (λ xs. entry_of xs g v) (sym (take-next es k e there))));
  alike = subst AreAlike (sym (take-next es k e there)) (alike_added (take k es) e h.alike (either added));
}
  where
    same_given : given_to old e ≡ given_to (take k es) e
    same_given = ap (λ (m : Store). m e.place.fun e.place.args) h.same

    either : IsAdded old e.place e.value new → (given_to (take k es) e ≡ Some e.value) ⊎ (given_to (take k es) e ≡ None)
    either (inl q) = inl (sym same_given ∙ q.0)
    either (inr q) = inr (sym same_given ∙ q.0)

pub first_clash : (es old : List Entry) (k : ℕ) (e : Entry) (f : ListFault) → slice_get es k ≡ Some e → AreListed es k old → IsClash old e.place e.value f → IsListFault es f
first_clash es old k e fault.Memory there h clash = tt
first_clash es old k e (fault.Conflict q x z) there h clash = (
  k,
  record {
    there = there ∙ (λ i. Some (record { place = sym clash.0 i; value = sym clash.1 i }));
    first = (λ i. entry_of (take k es) (clash.0 i).fun (clash.0 i).args) ∙ sym (ap (λ (m : Store). m e.place.fun e.place.args) h.same) ∙ clash.2;
    other = λ r. clash.3 (r ∙ clash.1);
    earlier = h.alike;
  },
)

-- the room for a place
pub has_room : (held : Held) (g : ℕ) (v : List Value) → (entry_of held.entries g v ≡ None → (0 < held.spare) × (length held.entries < MOST_CHANGED_PLACES)) → HasRoom held g v
has_room held g v h = by (entry_of held.entries g v) refl
  where
    by : (o : Option Value) → entry_of held.entries g v ≡ o → HasRoom held g v
    by None e = inr (h e)
    by (Some x) e = inl (ap is_some e)

pub none_from : (o : Option Value) → ((x : Value) → o ≡ Some x → ⊥) → o ≡ None
none_from None h = refl
none_from (Some x) h = absurd (h x refl)
