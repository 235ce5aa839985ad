-- How deep derivations read one another.
use Rattle.std.specs.Prelude.{ℕ, suc, max, min, List, Option, None, Some, slice_get}
use Rattle.sp_text.specs.declared.limits.TheConstants.{MOST_DERIVATION_DEPTH}
use Rattle.sp_core.specs.Tree.{Tree, Trees, Const, Var, Not, Two, If, Param, Look, Every, New, none, more}

abbrev pub or_none : Option ℕ → ℕ
or_none None = 0
or_none (Some n) = n

-- the depth of function g, where those of the functions before are given; any other has none
abbrev pub depth_at : List ℕ → ℕ → ℕ
depth_at before g = or_none (slice_get before g)

-- the greatest depth of the functions that an expression reads
abbrev mutual
  pub greatest : List ℕ → Tree → ℕ
  greatest before (Const v) = 0
  greatest before (Var k) = 0
  greatest before (Not a) = greatest before a
  greatest before (Two o a b) = max (greatest before a) (greatest before b)
  greatest before (If c a b) = max (greatest before c) (max (greatest before a) (greatest before b))
  greatest before (Param p ds) = greatest_in before ds
  greatest before (Look g ds) = max (depth_at before g) (greatest_in before ds)
  greatest before (Every k t b) = greatest before b
  greatest before (New g ds) = greatest_in before ds

  pub greatest_in : List ℕ → Trees → ℕ
  greatest_in before none = 0
  greatest_in before (more d ds) = max (greatest before d) (greatest_in before ds)

-- The depth of a derived function: one more than the greatest of those that its derivation reads. It is counted up to one over the limit.
abbrev pub derived_depth : List ℕ → Tree → ℕ
derived_depth before e = min (suc MOST_DERIVATION_DEPTH) (suc (greatest before e))
