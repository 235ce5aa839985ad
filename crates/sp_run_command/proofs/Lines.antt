-- The lines of no answers.
use Rattle.std.proofs.Common.{◌≡◌, ℕ, zero, suc, ◌≤◌, List, [], ◌∷◌, arith, drop, length, refl}
use Rattle.sp_values.specs.declared.place.Invocation.{Invocation}
use Rattle.sp_core.specs.Instances.{InstanceParts}
use Rattle.sp_core.specs.Parts.{Parts}
use Rattle.sp_run_command.specs.Printed.{answer_lines}

pub all_dropped : {A : Type 0} (xs : List A) (k : ℕ) → length xs ≤ k → drop k xs ≡ []
all_dropped [] zero h = refl
all_dropped [] (suc k) h = refl
all_dropped (x ∷ xs) zero h = absurd (omega (arith, h))
all_dropped (x ∷ xs) (suc k) h = all_dropped xs k (omega (arith, h))

pub no_lines : (p : Parts) (i : InstanceParts) (n : ℕ) (js : List Invocation) → answer_lines p i n js [] ≡ []
no_lines p i n [] = refl
no_lines p i n (j ∷ js) = refl
