use Rattle.std.proofs.Common.{◌≡◌, ◌-◌, ℕ, List}
use Rattle.sp_forms.specs.Cursors.{Reader}
use Rattle.sp_forms.specs.Readers.{items}
use Rattle.sp_cursor.specs.Items.{many_of, ReadsAs, Tells}
use Rattle.sp_cursor.proofs.lists.many.Given as goal

abbrev pub invariant-loop-turn : goal.invariant-loop-turn
invariant-loop-turn g l = (begin : List ℕ) (p : Reader _) → Tells begin (goal.B-post g l.begins) → ReadsAs p (goal.F-post g l.item)
    → many_of begin p l.fn.tokens ≡ items begin p (l._turn-end - l._turn) l.items.items l.tokens
