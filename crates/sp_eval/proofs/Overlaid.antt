-- Entries that stand before others are laid over these.
use Rattle.std.proofs.Common.{◌≡◌, refl, ℕ, Bool, true, false, List, [], ◌∷◌, ◌++◌, Option, Some}
use Rattle.std.specs.Prelude.{if◌then◌else◌}
use Rattle.sp_values.specs.declared.value.Value.{Value}
use Rattle.sp_core.specs.declared.state.Entry.{Entry}
use Rattle.sp_core.specs.States.{entry_of, is_at}
use Rattle.sp_eval.specs.Overlays.{upper_or}

choose : (b : Bool) (x : Value) (o u l : Option Value) → o ≡ upper_or u l → (if b then Some x else o) ≡ upper_or (if b then Some x else u) l
choose true x o u l e = refl
choose false x o u l e = e

pub entry_of-append : (d s : List Entry) (g : ℕ) (v : List Value) → entry_of (d ++ s) g v ≡ upper_or (entry_of d g v) (entry_of s g v)
entry_of-append [] s g v = refl
entry_of-append (e ∷ d) s g v = choose (is_at g v e) e.value (entry_of (d ++ s) g v) (entry_of d g v) (entry_of s g v) (entry_of-append d s g v)
