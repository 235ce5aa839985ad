use Rattle.std.proofs.Common.{◌≡◌, ◌<◌, ℕ, Some, slice_get}
use Rattle.sp_core.specs.declared.function.Assertion.{Assertion}
use Rattle.sp_core.specs.Instances.{IsAsserted, filling_of, world_of}
use Rattle.sp_eval.proofs.assertions.admissible.Given as goal

abbrev pub invariant-loop-index : goal.invariant-loop-index
invariant-loop-index l =
    (j : ℕ) → j < l.index → (a : Assertion) → slice_get l.fn.spec.assertions j ≡ Some a → IsAsserted (world_of l.fn.spec (filling_of l.fn.inst)) a
