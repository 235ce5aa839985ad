-- When two specifications have one lattice: the same names of levels in the same order, and the same order of the levels.
use Rattle.std.specs.Prelude.{ℕ, zero, suc, Bool, true, false, ◌&&◌, not, List, [], Option, Some, None, nat_eq, slice_get, if◌then◌else◌}
use Rattle.std.specs.Str.{bytes_eq}
use Rattle.sp_text.specs.declared.fault.Rule.TheVariants as rule
use Rattle.sp_text.specs.declared.fault.Span.{Span}
use Rattle.sp_text.specs.declared.violation.Violation.{Violation}
use Rattle.sp_text.specs.Violations.{breaks}
use Rattle.sp_lattice.specs.Order.{is_below}
use Rattle.sp_core.specs.Parts.{Parts}

-- whether P is true of all numbers below n
abbrev pub all_below : ℕ → (ℕ → Bool) → Bool
all_below zero P = true
all_below (suc n) P = all_below n P && P n

-- one name
abbrev pub same_name : Option (List ℕ) → Option (List ℕ) → Bool
same_name None y = false
same_name (Some x) None = false
same_name (Some x) (Some y) = bytes_eq x y

abbrev pub same_truth : Bool → Bool → Bool
same_truth true b = b
same_truth false b = not b

-- level k has one name in both
abbrev pub is_named_alike : Parts → Parts → ℕ → Bool
is_named_alike u p k = same_name (slice_get u.level_names k) (slice_get p.level_names k)

-- levels x and y are ordered alike
abbrev pub is_pair_alike : Parts → Parts → ℕ → ℕ → Bool
is_pair_alike u p x y = same_truth (is_below u.lattice x y) (is_below p.lattice x y)

abbrev pub is_ordered_alike : Parts → Parts → ℕ → Bool
is_ordered_alike u p x = all_below u.lattice.count (is_pair_alike u p x)

-- as many levels, each with one name in both, and each two ordered alike
abbrev pub same_lattice : Parts → Parts → Bool
same_lattice u p =
    nat_eq u.lattice.count p.lattice.count
    && (all_below u.lattice.count (is_named_alike u p) && all_below u.lattice.count (is_ordered_alike u p))

-- the lattices of a mapping's two specifications differ, which is told at the mapping's name
abbrev pub lattice_broken : Span → Parts → Parts → List Violation
lattice_broken place u p = if same_lattice u p then [] else breaks place rule.LatticeDiffers
