use Rattle.std.proofs.Common.{◌≡◌, ◌-◌, List, ◌∷◌, []}
use Rattle.sp_expression.specs.Marks.{mark_code}
use Rattle.sp_forms.specs.Cursors.{Reader}
use Rattle.sp_forms.specs.Readers.{items}
use Rattle.sp_cursor.specs.Items.{behind_of, separated_of, ReadsAs}
use Rattle.sp_cursor.proofs.Turns.{after}
use Rattle.sp_cursor.proofs.lists.separated.Given as goal

abbrev pub invariant-loop-turn : goal.invariant-loop-turn
invariant-loop-turn g l = (p : Reader _) → ReadsAs p (goal.F-post g l.item)
    → (h : _) × (t : List _) × (l.items.items ≡ h ∷ t) × (separated_of (mark_code l.mark) p l.fn.tokens ≡ after h (items (mark_code l.mark ∷ []) (behind_of (mark_code l.mark) p) (l._turn-end - l._turn) t l.tokens))
