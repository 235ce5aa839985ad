use Rattle.std.proofs.Common.{◌≡◌, refl, ◌∙◌, ℕ, List, Option, Some, None}
use Rattle.sp_values.specs.declared.value.Value.{Value}
use Rattle.sp_core.specs.Machine.{IsEntry, IsState, Machine}
use Rattle.sp_core.specs.Values.{Store}
use Rattle.sp_eval.specs.Overlays.{overlay, upper_or}
use Rattle.sp_eval.proofs.laws.overlay_state_law.Goals as goal

overlay_state : (m : Machine) (d s : Store) → IsState m d → IsState m s → IsState m (overlay d s)
overlay_state m d s h k = record { entries = λ g v x e. by g v x (d g v) refl e }
  where
    by : (g : ℕ) (v : List Value) (x : Value) (o : Option Value) → d g v ≡ o → upper_or o (s g v) ≡ Some x → IsEntry m g v x
    by g v x None q e = k.entries g v x e
    by g v x (Some y) q e = h.entries g v x (q ∙ e)

pub returns : goal.returns
returns c = overlay_state
