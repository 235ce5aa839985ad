-- A purged list with one more invocation.
use Rattle.std.proofs.Common.{◌≡◌, sym, ap, arith, ℕ, zero, suc, ◌<◌, Bool, true, false, List, [], ◌∷◌, ◌++◌, length, take, get_or}
use Rattle.std.specs.Prelude.{if◌then◌else◌}
use Rattle.sp_values.specs.declared.place.Invocation.{Invocation}
use Rattle.sp_core.specs.Machine.{Machine}
use Rattle.sp_core.specs.Security.{is_seen, purge}

module _ (m : Machine) (l : ℕ) where
  kept_before : (b : Bool) (i : Invocation) (is' js ks : List Invocation) → js ≡ is' ++ ks → (if b then i ∷ js else js) ≡ (if b then i ∷ is' else is') ++ ks
  kept_before true i is' js ks e = ap (λ xs. i ∷ xs) e
  kept_before false i is' js ks e = e

  pub purge_next : (is' : List Invocation) (k : ℕ) (i : Invocation) → k < length is' → i ≡ get_or is' k i → purge m l (take (suc k) is') ≡ purge m l (take k is') ++ (if is_seen m l i then i ∷ [] else [])
  purge_next [] k i h e = absurd (omega (arith, h))
  purge_next (j ∷ is') zero i h e = ap (λ (x : Invocation). if is_seen m l x then x ∷ [] else []) (sym e)
  purge_next (j ∷ is') (suc k) i h e = kept_before (is_seen m l j) j (purge m l (take k is')) (purge m l (take (suc k) is')) (if is_seen m l i then i ∷ [] else []) (purge_next is' k i (omega (arith, h)) e)
