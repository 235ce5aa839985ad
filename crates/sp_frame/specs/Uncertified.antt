-- The answers of a command that prints lines and certifies nothing, and such a command's work among commands that certify.
use Rattle.std.specs.Prelude.{ℕ, List}
use Rattle.sp_frame.specs.Endings.{Answer, certified, printed}
use Rattle.sp_frame.specs.Steps.{Gives, Step, Then}

abbrev pub Lines : Type 0
Lines = Answer ⊥

abbrev pub spells : ⊥ → List ℕ → Type 0
spells c bytes = ⊥

-- the same answer among those that may certify
abbrev pub widen : {C : Type 0} → Lines → Answer C
widen (printed bytes v) = printed bytes v
widen (certified c) = absurd c

-- work that certifies nothing, as work that may
abbrev pub Widened : {C : Type 0} → Step Lines → Step (Answer C)
Widened step = Then step (λ a. Gives (widen a))
