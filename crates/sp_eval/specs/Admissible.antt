-- Which assertion of an instance is the first false one, and what the test of admissibility asks of a claim.
use Rattle.std.specs.Prelude.{◌≡◌, ℕ, ◌+◌, ◌<◌, ◌≤◌, IsTrue, List, ◌++◌, length, slice_get, Some}
use Rattle.std.specs.List.{All}
use Rattle.sp_values.specs.declared.value.Ty.{Ty}
use Rattle.sp_values.specs.declared.value.Ty.TheVariants as ty
use Rattle.sp_values.specs.declared.value.Value.{Value}
use Rattle.sp_values.specs.Domains.{are_values}
use Rattle.sp_core.specs.declared.function.Assertion.{Assertion}
use Rattle.sp_core.specs.Instances.{Filling, IsAsserted, world_of}
use Rattle.sp_core.specs.Machine.{AreBindings}
use Rattle.sp_core.specs.Measures.{LooksAt, Nothing, quantifiers}
use Rattle.sp_core.specs.Parts.{Parts, signature}
use Rattle.sp_core.specs.Tree.{Tree}
use Rattle.sp_core.specs.Typing.{HasType, is_finite}
use Rattle.sp_core.specs.Values.{World, is_true, nothing, value_of}
use Rattle.sp_eval.specs.Settings.{Setting, sizes}

-- the n-th assertion, from 1, is not TRUE for all proper values of its variables, and each earlier one is
pub record IsFalseAt (p : Parts) (i : Filling) (n k : ℕ) (a : Assertion) : Type 0 where
  pub number : n ≡ k + 1
  pub there : slice_get p.assertions k ≡ Some a
  pub is_false : ¬ IsAsserted (world_of p i) a
  pub earlier : (j : ℕ) (b : Assertion) → j < k → slice_get p.assertions j ≡ Some b → IsAsserted (world_of p i) b

abbrev pub IsFirstFalse : Parts → Filling → ℕ → Type 0
IsFirstFalse p i n = (k : ℕ) × (a : Assertion) × IsFalseAt p i n k a

-- the body is TRUE for all proper values of further variables of the types ts, put after the values x
abbrev pub HoldsForAll : World → List Ty → List Value → Tree → Type 0
HoldsForAll w ts x b = (cs : List Value) → AreBindings w ts cs → IsTrue (is_true (value_of w nothing nothing (x ++ cs) b))

-- the body reads no V-function, and is typed over the values x and further variables of the types ts
pub record IsClaimFor (s : Setting) (ts : List Ty) (x : List Value) (b : Tree) (xs : List Ty) : Type 0 where
  pub values : IsTrue (are_values (sizes s) xs x)
  pub finite : All (λ t. IsTrue (is_finite (signature s.parts) t)) ts
  pub typed : HasType (signature s.parts) (xs ++ ts) b ty.Boolean
  pub room : length x + length ts + quantifiers b ≤ 16
  pub reads_nothing : LooksAt Nothing Nothing b

abbrev pub IsClaim : Setting → List Ty → List Value → Tree → Type 0
IsClaim s ts x b = (xs : List Ty) × IsClaimFor s ts x b xs
