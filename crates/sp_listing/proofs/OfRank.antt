-- The entries of the changes of one rank, change by change.
use Rattle.std.proofs.Common.{◌≡◌, refl, sym, ◌∙◌, ap, arith, ℕ, zero, suc, ◌<◌, ◌≤◌, Bool, true, false, List, [], ◌∷◌, ◌++◌, length, map, take, get_or, Some, append_assoc}
use Rattle.std.specs.Prelude.{if◌then◌else◌, slice_get}
use Rattle.std.specs.List.{filter}
use Rattle.std.proofs.lemmas.List.{append-nil}
use Rattle.std.proofs.lemmas.Option.{none-some, same_Some}
use Rattle.sp_values.specs.declared.place.Invocation.{Invocation}
use Rattle.sp_core.specs.declared.state.Entry.{Entry}
use Rattle.sp_core.specs.Effects.{GuardedChange}
use Rattle.sp_core.specs.Machine.{Machine}
use Rattle.sp_core.specs.Values.{Store}
use Rattle.sp_listing.specs.True.{entries_at, true_entries}

pub take_past : {A : Type 0} (xs : List A) (n : ℕ) → length xs ≤ n → take n xs ≡ xs
take_past [] zero l = refl
take_past [] (suc n) l = refl
take_past (x ∷ xs) zero l = absurd (omega (arith, l))
take_past (x ∷ xs) (suc n) l = ap (λ ys. x ∷ ys) (take_past xs n (omega (arith, l)))

-- the change of a number and what a list of numbers, one for each, gives it
pub own_number : (r : GuardedChange → ℕ) (as' : List GuardedChange) (ns : List ℕ) → ns ≡ map r as' → (k : ℕ) → k < length as' → (a : GuardedChange) × (slice_get as' k ≡ Some a) × (get_or ns k 0 ≡ r a)
own_number r [] ns e k l = absurd (omega (arith, l))
own_number r (a ∷ as') ns e zero l = (a, refl, ap (λ ns. get_or ns 0 0) e)
own_number r (a ∷ as') ns e (suc k) l =
    let q = own_number r as' (map r as') refl k (omega (arith, l)) in
    (q.0, q.1, ap (λ ns. get_or ns (suc k) 0) e ∙ q.2)

module _ (m : Machine) (s u : Store) (i : Invocation) (p : GuardedChange → Bool) where
  entries_if : (b : Bool) (a : GuardedChange) → true_entries m s u i (if b then a ∷ [] else []) ≡ (if b then entries_at m s u i.args a else [])
  entries_if true a = append-nil (entries_at m s u i.args a)
  entries_if false a = refl

  behind : (b : Bool) (x : GuardedChange) (as' bs : List GuardedChange) (es : List Entry) → true_entries m s u i bs ≡ true_entries m s u i as' ++ es
      → true_entries m s u i (if b then x ∷ bs else bs) ≡ true_entries m s u i (if b then x ∷ as' else as') ++ es
  behind true x as' bs es e = ap (λ fs. entries_at m s u i.args x ++ fs) e ∙ sym (append_assoc (entries_at m s u i.args x) (true_entries m s u i as') es)
  behind false x as' bs es e = e

  pub entries_next : (as' : List GuardedChange) (k : ℕ) (a : GuardedChange) → slice_get as' k ≡ Some a
      → true_entries m s u i (filter p (take (suc k) as')) ≡ true_entries m s u i (filter p (take k as')) ++ (if p a then entries_at m s u i.args a else [])
  entries_next [] k a h = absurd (none-some a h)
  entries_next (x ∷ as') zero a h = entries_if (p x) x ∙ ap (λ (y : GuardedChange). if p y then entries_at m s u i.args y else []) (same_Some x a h)
  entries_next (x ∷ as') (suc k) a h = behind (p x) x (filter p (take k as')) (filter p (take (suc k) as')) (if p a then entries_at m s u i.args a else []) (entries_next as' k a h)
