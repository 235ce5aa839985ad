-- A state has one number of entries: lists of entries, no two of one place, that are one map are equally long.
use Rattle.std.proofs.Common.{◌≡◌, refl, sym, ◌∙◌, ap, ℕ, suc, Bool, true, false, List, [], ◌∷◌, length, Option, Some, None, true≢false}
use Rattle.std.specs.Prelude.{if◌then◌else◌}
use Rattle.std.proofs.lemmas.Option.{none-some}
use mathlib.Core.Path.{fun_ext}
use Rattle.sp_values.specs.declared.value.Value.{Value}
use Rattle.sp_core.specs.declared.state.Entry.{Entry}
use Rattle.sp_core.specs.Values.{Store}
use Rattle.sp_core.specs.States.{AreApart, entry_of, is_at}
use Rattle.sp_core.proofs.StateLemmas.{hit, hit-Decides}
use Rattle.sp_listing.specs.Listing.{HasEntries}
use Rattle.sp_listing.proofs.Counts.{exchanged}
use Rattle.sp_listing.proofs.Maps.{hit-self}

-- the entries without that of a place
without : List Entry → ℕ → List Value → List Entry
without [] g v = []
without (e ∷ es) g v = if is_at g v e then es else e ∷ without es g v

none_either : (b : Bool) (o : Option Value) → o ≡ None → (if b then None else o) ≡ None
none_either true o e = refl
none_either false o e = e

without_map : (es : List Entry) (g : ℕ) (v : List Value) (x : Value) → AreApart es → entry_of es g v ≡ Some x → (h : ℕ) (u : List Value) → entry_of (without es g v) h u ≡ (if hit g v h u then None else entry_of es h u)
unfolding without
without_map [] g v x a there h u = absurd (none-some x there)
without_map (e ∷ es) g v x a there h u = by (is_at g v e) refl there (λ k. without_map es g v x a.1 k h u)
  where
    by : (b : Bool) → is_at g v e ≡ b → (if b then Some e.value else entry_of es g v) ≡ Some x → (entry_of es g v ≡ Some x → entry_of (without es g v) h u ≡ (if hit g v h u then None else entry_of es h u))
        → entry_of (if b then es else e ∷ without es g v) h u ≡ (if hit g v h u then None else entry_of (e ∷ es) h u)
    by true t there ih =
        let q = (hit-Decides e.place.fun e.place.args g v).0 t in
        let same : hit e.place.fun e.place.args h u ≡ hit g v h u = λ i. hit (q.0 i) (q.1 i) h u in
        own (hit g v h u) refl same
      where
        own : (b : Bool) → hit g v h u ≡ b → hit e.place.fun e.place.args h u ≡ hit g v h u → entry_of es h u ≡ (if b then None else (if hit e.place.fun e.place.args h u then Some e.value else entry_of es h u))
        own true f same = let r = (hit-Decides e.place.fun e.place.args h u).0 (same ∙ f) in (λ i. entry_of es (sym r.0 i) (sym r.1 i)) ∙ a.0
        own false f same = λ i. if sym (same ∙ f) i then Some e.value else entry_of es h u
    by false t there ih =
        (λ i. if is_at h u e then Some e.value else ih there i)
        ∙ exchanged (is_at h u e) (hit g v h u) None (Some e.value) (entry_of es h u)
        (λ p r.
        let q = (hit-Decides e.place.fun e.place.args h u).0 p in
        let w = (hit-Decides g v h u).0 r in
        true≢false (sym ((hit-Decides e.place.fun e.place.args g v).1 (q.0 ∙ sym w.0, q.1 ∙ sym w.1)) ∙ t))

without_apart : (es : List Entry) (g : ℕ) (v : List Value) (x : Value) → AreApart es → entry_of es g v ≡ Some x → AreApart (without es g v)
unfolding without
without_apart [] g v x a there = tt
without_apart (e ∷ es) g v x a there = by (is_at g v e) refl there (λ k. without_apart es g v x a.1 k)
  where
    by : (b : Bool) → is_at g v e ≡ b → (if b then Some e.value else entry_of es g v) ≡ Some x → (entry_of es g v ≡ Some x → AreApart (without es g v)) → AreApart (if b then es else e ∷ without es g v)
    by true t there ih = a.1
    by false t there ih = (
      without_map es g v x a.1 there e.place.fun e.place.args ∙ none_either (hit g v e.place.fun e.place.args) (entry_of es e.place.fun e.place.args) a.0,
      ih there,
    )

without_length : (es : List Entry) (g : ℕ) (v : List Value) (x : Value) → entry_of es g v ≡ Some x → length es ≡ suc (length (without es g v))
unfolding without
without_length [] g v x there = absurd (none-some x there)
without_length (e ∷ es) g v x there = by (is_at g v e) there (λ k. without_length es g v x k)
  where
    by : (b : Bool) → (if b then Some e.value else entry_of es g v) ≡ Some x → (entry_of es g v ≡ Some x → length es ≡ suc (length (without es g v))) → suc (length es) ≡ suc (length (if b then es else e ∷ without es g v))
    by true there ih = refl
    by false there ih = ap suc (ih there)

first_of : (e : Entry) (es : List Entry) → entry_of (e ∷ es) e.place.fun e.place.args ≡ Some e.value
first_of e es = ap (λ b. if b then Some e.value else entry_of es e.place.fun e.place.args) (hit-self e.place.fun e.place.args)

equally_long : (es fs : List Entry) → AreApart es → AreApart fs → entry_of es ≡ entry_of fs → length es ≡ length fs
equally_long [] [] a b same = refl
equally_long [] (f ∷ fs) a b same = absurd (none-some f.value (ap (λ (m : Store). m f.place.fun f.place.args) same ∙ first_of f fs))
equally_long (e ∷ es) fs a b same =
    let g = e.place.fun in
    let v = e.place.args in
    let there : entry_of fs g v ≡ Some e.value = ap (λ (m : Store). m g v) (sym same) ∙ first_of e es in
    let rest : entry_of es ≡ entry_of (without fs g v) = fun_ext (λ h. fun_ext (λ u.
    own h u (hit g v h u) refl ∙ (λ i. if hit g v h u then None else same i h u) ∙ sym (without_map fs g v e.value b there h u))) in
    ap suc (equally_long es (without fs g v) a.1 (without_apart fs g v e.value b there) rest) ∙ sym (without_length fs g v e.value there)
  where
    own : (h : ℕ) (u : List Value) (b : Bool) → hit e.place.fun e.place.args h u ≡ b
        → entry_of es h u ≡ (if hit e.place.fun e.place.args h u then None else (if hit e.place.fun e.place.args h u then Some e.value else entry_of es h u))
    own h u true t = (let r = (hit-Decides e.place.fun e.place.args h u).0 t in (λ i. entry_of es (sym r.0 i) (sym r.1 i)) ∙ a.0) ∙ (λ i. if sym t i then None else (if hit e.place.fun e.place.args h u then Some e.value else entry_of es h u))
    own h u false t = λ i. if sym t i then None else (if sym t i then Some e.value else entry_of es h u)

pub one_count : (s : Store) (n k : ℕ) → HasEntries s n → HasEntries s k → n ≡ k
one_count s n k h j = sym h.2 ∙ equally_long h.0 j.0 h.1.apart j.1.apart (h.1.map ∙ sym j.1.map) ∙ j.2
