-- How many entries a state has with changes laid over it.
use Rattle.std.proofs.Common.{◌≡◌, refl, sym, ◌∙◌, ap, arith, ℕ, suc, ◌+◌, Bool, true, false, List, [], ◌∷◌, length, Option, Some, true≢false}
use Rattle.std.specs.Prelude.{if◌then◌else◌, is_some}
use mathlib.Core.Path.{fun_ext}
use Rattle.sp_values.specs.declared.value.Value.{Value}
use Rattle.sp_values.specs.declared.place.Place.{Place}
use Rattle.sp_core.specs.declared.state.Entry.{Entry}
use Rattle.sp_core.specs.Values.{Store}
use Rattle.sp_core.specs.States.{AreApart, entry_of, is_at, put_at}
use Rattle.sp_core.proofs.StateLemmas.{hit, hit-Decides, hit-swapped}
use Rattle.sp_eval.specs.Overlays.{overlay, upper_or}
use Rattle.sp_listing.specs.Listing.{HasEntries, fresh}

-- the entries with one put among them
put : List Entry → Place → Value → List Entry
put [] p x = record { place = p; value = x } ∷ []
put (e ∷ es) p x = if is_at p.fun p.args e then record { place = e.place; value = x } ∷ es else e ∷ put es p x

same_over : {A : Type 0} (b : Bool) (x y : A) (z : A) → (if b then x else z) ≡ (if b then x else (if b then y else z))
same_over true x y z = refl
same_over false x y z = refl

pub exchanged : {A : Type 0} (b c : Bool) (x y z : A) → (b ≡ true → c ≡ true → ⊥) → (if b then y else (if c then x else z)) ≡ (if c then x else (if b then y else z))
exchanged true true x y z h = absurd (h refl refl)
exchanged true false x y z h = refl
exchanged false c x y z h = refl

put_map : (es : List Entry) (p : Place) (x : Value) (g : ℕ) (v : List Value) → entry_of (put es p x) g v ≡ put_at p.fun p.args x (entry_of es) g v
unfolding put
put_map [] p x g v = refl
put_map (e ∷ es) p x g v = by (is_at p.fun p.args e) refl (put_map es p x g v)
  where
    by : (b : Bool) → is_at p.fun p.args e ≡ b → entry_of (put es p x) g v ≡ put_at p.fun p.args x (entry_of es) g v
        → entry_of (if b then record { place = e.place; value = x } ∷ es else e ∷ put es p x) g v ≡ put_at p.fun p.args x (entry_of (e ∷ es)) g v
    by true t ih =
        let q = (hit-Decides e.place.fun e.place.args p.fun p.args).0 t in
        let same : hit e.place.fun e.place.args g v ≡ hit p.fun p.args g v = λ i. hit (q.0 i) (q.1 i) g v in
        (λ i. if same i then Some x else entry_of es g v) ∙ same_over (hit p.fun p.args g v) (Some x) (Some e.value) (entry_of es g v)
        ∙ (λ i. if hit p.fun p.args g v then Some x else (if sym same i then Some e.value else entry_of es g v))
    by false t ih =
        (λ i. if is_at g v e then Some e.value else ih i)
        ∙ exchanged (is_at g v e) (hit p.fun p.args g v) (Some x) (Some e.value) (entry_of es g v)
        (λ a b.
        let q = (hit-Decides e.place.fun e.place.args g v).0 a in
        let r = (hit-Decides p.fun p.args g v).0 b in
        true≢false (sym ((hit-Decides e.place.fun e.place.args p.fun p.args).1 (q.0 ∙ sym r.0, q.1 ∙ sym r.1)) ∙ t))

put_apart : (es : List Entry) (p : Place) (x : Value) → AreApart es → AreApart (put es p x)
unfolding put
put_apart [] p x a = (refl, tt)
put_apart (e ∷ es) p x a = by (is_at p.fun p.args e) refl (put_apart es p x a.1)
  where
    by : (b : Bool) → is_at p.fun p.args e ≡ b → AreApart (put es p x) → AreApart (if b then record { place = e.place; value = x } ∷ es else e ∷ put es p x)
    by true t ih = (a.0, a.1)
    by false t ih = (
      put_map es p x e.place.fun e.place.args
          ∙ (λ i. if (hit-swapped p.fun p.args e.place.fun e.place.args ∙ t) i then Some x else entry_of es e.place.fun e.place.args) ∙ a.0,
      ih,
    )

put_length : (es : List Entry) (p : Place) (x : Value) → length (put es p x) ≡ length es + (if is_some (entry_of es p.fun p.args) then 0 else 1)
unfolding put
put_length [] p x = omega arith
put_length (e ∷ es) p x = by (is_at p.fun p.args e) (put_length es p x)
  where
    by : (b : Bool) → length (put es p x) ≡ length es + (if is_some (entry_of es p.fun p.args) then 0 else 1)
        → length (if b then record { place = e.place; value = x } ∷ es else e ∷ put es p x)
        ≡ suc (length es) + (if is_some (if b then Some e.value else entry_of es p.fun p.args) then 0 else 1)
    by true ih = omega arith
    by false ih = omega (arith, ih)

upper_if : (b : Bool) (o u : Option Value) (x : Value) → (if b then Some x else upper_or o u) ≡ upper_or (if b then Some x else o) u
upper_if true o u x = refl
upper_if false o u x = refl

-- one where a place has none
missing_at : Option Value → ℕ
missing_at o = if is_some o then 0 else 1

-- one entry more, of a place that those laid so far don't name
pub laid_entries : (es : List Entry) (s : Store) (n : ℕ) → AreApart es → HasEntries s n → HasEntries (overlay (entry_of es) s) (n + fresh es s)
unfolding missing_at
laid_entries [] s n a h = (h.0, h.1, h.2 ∙ omega arith)
laid_entries (e ∷ es) s n a h =
    let below = laid_entries es s n a.1 h in
    let p = e.place in
    let there : entry_of below.0 p.fun p.args ≡ s p.fun p.args = ap (λ (m : Store). m p.fun p.args) below.1.map ∙ ap (λ o. upper_or o (s p.fun p.args)) a.0 in
    let missing = ap missing_at there in
    let long = put_length below.0 p e.value in
    let before = below.2 in (
      put below.0 p e.value,
      record {
        apart = put_apart below.0 p e.value below.1.apart;
        map = fun_ext (λ g. fun_ext (λ v. put_map below.0 p e.value g v
            ∙ (λ i. if hit p.fun p.args g v then Some e.value else below.1.map i g v)
            ∙ upper_if (hit p.fun p.args g v) (entry_of es g v) (s g v) e.value));
      },
      omega (arith, long, missing, before),
    )
