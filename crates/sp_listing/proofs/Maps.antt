-- What lists of entries are as maps: appended lists, entries of a list, and places that have none.
use Rattle.std.proofs.Common.{◌≡◌, refl, sym, ◌∙◌, ap, arith, ℕ, suc, zero, ◌+◌, ◌≤◌, ◌<◌, ◌⊎◌, inl, inr, Bool, true, false, List, [], ◌∷◌, ◌++◌, take, Option, Some, None}
use Rattle.std.specs.Prelude.{if◌then◌else◌, is_some, slice_get}
use Rattle.std.proofs.lemmas.Option.{none-some, same_Some}
use mathlib.Core.Path.{fun_ext}
use Rattle.sp_values.specs.declared.value.Value.{Value}
use Rattle.sp_values.specs.declared.place.Place.{Place}
use Rattle.sp_core.specs.declared.state.Entry.{Entry}
use Rattle.sp_core.specs.Values.{Store}
use Rattle.sp_core.specs.States.{AreApart, entries_from, entry_of, is_at, put_at}
use Rattle.sp_core.proofs.StateLemmas.{hit, hit-Decides, hit-swapped}
use Rattle.sp_text.specs.declared.limits.TheConstants.{MOST_CHANGED_PLACES}
use Rattle.sp_eval.specs.Overlays.{overlay, upper_or}
use Rattle.sp_listing.specs.Listing.{fresh, given_to}

pub hit-self : (g : ℕ) (v : List Value) → hit g v g v ≡ true
hit-self g v = (hit-Decides g v g v).1 (refl, refl)

-- the map of two lists is the first's over the second's
pub entry_of-append : (es fs : List Entry) (g : ℕ) (v : List Value) → entry_of (es ++ fs) g v ≡ upper_or (entry_of es g v) (entry_of fs g v)
entry_of-append [] fs g v = refl
entry_of-append (e ∷ es) fs g v = by (is_at g v e) (entry_of-append es fs g v)
  where
    by : (b : Bool) → entry_of (es ++ fs) g v ≡ upper_or (entry_of es g v) (entry_of fs g v)
        → (if b then Some e.value else entry_of (es ++ fs) g v) ≡ upper_or (if b then Some e.value else entry_of es g v) (entry_of fs g v)
    by true h = refl
    by false h = h

-- an entry of a list with one more
pub slice_get-last : (es : List Entry) (e x : Entry) (n : ℕ) → slice_get (es ++ e ∷ []) n ≡ Some x → (slice_get es n ≡ Some x) ⊎ (e ≡ x)
slice_get-last [] e x zero h = inr (same_Some e x h)
slice_get-last [] e x (suc n) h = absurd (none-some x h)
slice_get-last (y ∷ es) e x zero h = inl h
slice_get-last (y ∷ es) e x (suc n) h = slice_get-last es e x n h

pub take-next : (es : List Entry) (k : ℕ) (e : Entry) → slice_get es k ≡ Some e → take (suc k) es ≡ take k es ++ e ∷ []
take-next [] k e h = absurd (none-some e h)
take-next (x ∷ es) zero e h = λ i. same_Some x e h i ∷ []
take-next (x ∷ es) (suc k) e h = ap (λ ys. x ∷ ys) (take-next es k e h)

-- what the map of a list gives is from one of its entries
pub entry_from : (es : List Entry) (g : ℕ) (v : List Value) (x : Value) → entry_of es g v ≡ Some x
    → (n : ℕ) × (e : Entry) × (slice_get es n ≡ Some e) × (e.place.fun ≡ g) × (e.place.args ≡ v) × (e.value ≡ x)
entry_from [] g v x h = absurd (none-some x h)
entry_from (e ∷ es) g v x h = by (is_at g v e) refl (λ f. entry_from es g v x f) h
  where
    by : (b : Bool) → is_at g v e ≡ b
        → (entry_of es g v ≡ Some x → (n : ℕ) × (y : Entry) × (slice_get es n ≡ Some y) × (y.place.fun ≡ g) × (y.place.args ≡ v) × (y.value ≡ x))
        → (if b then Some e.value else entry_of es g v) ≡ Some x
        → (n : ℕ) × (y : Entry) × (slice_get (e ∷ es) n ≡ Some y) × (y.place.fun ≡ g) × (y.place.args ≡ v) × (y.value ≡ x)
    by true t ih f = let q = (hit-Decides e.place.fun e.place.args g v).0 t in (0, e, refl, q.0, q.1, same_Some e.value x f)
    by false t ih f = let r = ih f in (suc r.0, r.1, r.2, r.3, r.4, r.5)

-- where the map gives a place nothing, no entry is of the place
pub not_at : (es : List Entry) (g : ℕ) (v : List Value) (k : ℕ) (e : Entry) → entry_of es g v ≡ None → slice_get es k ≡ Some e → hit e.place.fun e.place.args g v ≡ false
not_at [] g v k e n h = absurd (none-some e h)
not_at (y ∷ es) g v k e n h = by (is_at g v y) refl (λ j m f. not_at es g v j e m f) n k h
  where
    by : (b : Bool) → is_at g v y ≡ b → ((j : ℕ) → entry_of es g v ≡ None → slice_get es j ≡ Some e → hit e.place.fun e.place.args g v ≡ false) → (if b then Some y.value else entry_of es g v) ≡ None → (j : ℕ) → slice_get (y ∷ es) j ≡ Some e → hit e.place.fun e.place.args g v ≡ false
    by true t ih m j f = absurd (none-some y.value (sym m))
    by false t ih m zero f = ap (λ (z : Entry). hit z.place.fun z.place.args g v) (sym (same_Some y e f)) ∙ t
    by false t ih m (suc j) f = ih j m f

-- of entries that are apart, those before one have none of its place
pub absent_before : (es : List Entry) (k : ℕ) (e : Entry) → AreApart es → slice_get es k ≡ Some e → given_to (take k es) e ≡ None
absent_before [] k e a h = absurd (none-some e h)
absent_before (x ∷ es) zero e a h = refl
absent_before (x ∷ es) (suc k) e a h =
    (λ i. if other i then Some x.value else given_to (take k es) e) ∙ absent_before es k e a.1 h
  where
    other : is_at e.place.fun e.place.args x ≡ false
    other = hit-swapped x.place.fun x.place.args e.place.fun e.place.args ∙ not_at es x.place.fun x.place.args k e a.0 h

-- a place that is written over a map that lies over another
put_laid : (b : Bool) (a o : Option Value) (x : Value) → (b ≡ true → a ≡ None) → (if b then Some x else upper_or a o) ≡ upper_or (upper_or a (if b then Some x else None)) o
put_laid true a o x h = ap (λ (c : Option Value). upper_or (upper_or c (Some x)) o) (sym (h refl))
put_laid false (Some y) o x h = refl
put_laid false None o x h = refl

pub put_over : (es : List Entry) (s : Store) (k : ℕ) (e : Entry) → AreApart es → slice_get es k ≡ Some e
    → put_at e.place.fun e.place.args e.value (overlay (entry_of (take k es)) s) ≡ overlay (entry_of (take (suc k) es)) s
put_over es s k e a h = fun_ext (λ g. fun_ext (λ v.
    put_laid (hit e.place.fun e.place.args g v) (entry_of (take k es) g v) (s g v) e.value
    (λ t. let q = (hit-Decides e.place.fun e.place.args g v).0 t in (λ i. entry_of (take k es) (sym q.0 i) (sym q.1 i)) ∙ absent_before es k e a h)
    ∙ ap (λ o. upper_or o (s g v)) (sym (entry_of-append (take k es) (e ∷ []) g v) ∙ ap (λ xs. entry_of xs g v) (sym (take-next es k e h)))))

-- how many entries are of places that have none
pub fresh-next : (es : List Entry) (s : Store) (k : ℕ) (e : Entry) → slice_get es k ≡ Some e
    → fresh (take (suc k) es) s ≡ fresh (take k es) s + (if is_some (s e.place.fun e.place.args) then 0 else 1)
fresh-next [] s k e h = absurd (none-some e h)
fresh-next (x ∷ es) s zero e h = ap (λ (y : Entry). (if is_some (s y.place.fun y.place.args) then 0 else 1) + 0) (same_Some x e h) ∙ omega arith
fresh-next (x ∷ es) s (suc k) e h = let ih = fresh-next es s k e h in omega (arith, ih)

pub fresh-take-le : (es : List Entry) (s : Store) (k : ℕ) → fresh (take k es) s ≤ fresh es s
fresh-take-le [] s zero = omega arith
fresh-take-le [] s (suc k) = omega arith
fresh-take-le (x ∷ es) s zero = omega arith
fresh-take-le (x ∷ es) s (suc k) = let ih = fresh-take-le es s k in omega (arith, ih)

-- the state so far, with the entries before e written over s, has at the place of e what s has
pub before_is : (es : List Entry) (s : Store) (k : ℕ) (e : Entry) → slice_get es k ≡ Some e → AreApart es → (t : Store) → t ≡ overlay (entry_of (take k es)) s
    → t e.place.fun e.place.args ≡ s e.place.fun e.place.args
before_is es s k e h a t w =
    ap (λ (m : Store). m e.place.fun e.place.args) w ∙ ap (λ (o : Option Value). upper_or o (s e.place.fun e.place.args)) (absent_before es k e a h)

pub few_put : (es : List Entry) (s : Store) (k : ℕ) (e : Entry) → slice_get es k ≡ Some e → AreApart es → (t : Store) → t ≡ overlay (entry_of (take k es)) s
    → t e.place.fun e.place.args ≡ None → (n now : ℕ) → now ≡ n + fresh (take k es) s → n + fresh es s ≤ MOST_CHANGED_PLACES → now < MOST_CHANGED_PLACES
few_put es s k e h a t w none n now counted few =
    let missing : s e.place.fun e.place.args ≡ None = sym (before_is es s k e h a t w) ∙ none in
    let next : fresh (take (suc k) es) s ≡ fresh (take k es) s + 1 = fresh-next es s k e h ∙ ap (λ (o : Option Value). fresh (take k es) s + (if is_some o then 0 else 1)) missing in
    let most = fresh-take-le es s (suc k) in
    omega (arith, counted, few, next, most)

pub counted_put : (es : List Entry) (s : Store) (k : ℕ) (e : Entry) → slice_get es k ≡ Some e → AreApart es → (t : Store) → t ≡ overlay (entry_of (take k es)) s
    → (n now : ℕ) → now ≡ n + fresh (take k es) s → (after : ℕ) → after ≡ (if is_some (t e.place.fun e.place.args) then now else now + 1)
    → after ≡ n + fresh (take (suc k) es) s
counted_put es s k e h a t w n now counted after put =
    put ∙ ap (λ (o : Option Value). if is_some o then now else now + 1) (before_is es s k e h a t w)
    ∙ by (is_some (s e.place.fun e.place.args)) (fresh-next es s k e h)
  where
    by : (b : Bool) → fresh (take (suc k) es) s ≡ fresh (take k es) s + (if b then 0 else 1) → (if b then now else now + 1) ≡ n + fresh (take (suc k) es) s
    by true f = omega (arith, counted, f)
    by false f = omega (arith, counted, f)

pub one_at_most : (b : Bool) → (if b then 0 else 1) ≤ 1
one_at_most true = omega arith
one_at_most false = omega arith

pub entries_from-push : (es : List (Place × Value)) (p : Place) (x : Value) → entries_from (es ++ (p, x) ∷ []) ≡ entries_from es ++ record { place = p; value = x } ∷ []
entries_from-push [] p x = refl
entries_from-push (e ∷ es) p x = ap (λ ys. record { place = e.0; value = e.1 } ∷ ys) (entries_from-push es p x)

pub slice_get-take : (es : List Entry) (n k : ℕ) (e : Entry) → slice_get (take n es) k ≡ Some e → slice_get es k ≡ Some e
slice_get-take [] zero k e h = absurd (none-some e h)
slice_get-take [] (suc n) k e h = absurd (none-some e h)
slice_get-take (x ∷ es) zero k e h = absurd (none-some e h)
slice_get-take (x ∷ es) (suc n) zero e h = h
slice_get-take (x ∷ es) (suc n) (suc k) e h = slice_get-take es n k e h
