-- The derived tests of identity are those of the definitions.
use Rattle.std.proofs.Common.{◌≡◌, rules, Bool, List}
use Rattle.std.specs.Bool.{Decides, one_answer}
use lib.Pointwise.{pointwise}
use Rattle.std.proofs.lemmas.Slice.Eq.{slice_eq-Decides}
use Rattle.sp_values.specs.Identity.{same_values, same_values-Decides}
use Rattle.sp_values.specs.declared.value.Value.{Value}
use Rattle.sp_values.specs.contracts.value.ValuePartialEq.TheImpl.{eq-value}

-- the derived test decides equality
pub eq-Decides : (a b : Value) → Decides (eq-value.it a b) (a ≡ b)
eq-Decides a b = search rules

-- what the derived test of slices answers is the test on lists
pub same_list : (xs ys : List Value) (r : Bool) → r ≡ pointwise eq-value.it xs ys → r ≡ same_values xs ys
same_list xs ys r e = one_answer r (same_values xs ys) (slice_eq-Decides eq-Decides xs ys r e) (same_values-Decides xs ys)
