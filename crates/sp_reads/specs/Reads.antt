-- What a definition's expression breaks by the V-functions that it reads, at a call of it.
use Rattle.std.specs.Prelude.{◌≡◌, ℕ, zero, suc, List, [], ◌∷◌, ◌++◌, Option, None, Some, Bool, true, false, slice_get, if◌then◌else◌}
use Rattle.sp_text.specs.declared.fault.Span.{Span}
use Rattle.sp_core.specs.Tree.{Tree, Trees, Const, Var, Not, Two, If, Param, Look, Every, New, none, more}
use Rattle.sp_text.specs.declared.fault.Rule.{Rule}
use Rattle.sp_text.specs.declared.violation.Violation.{Violation}
use Rattle.sp_text.specs.Violations.{breaks, first}

-- the k-th of some lists; no rule is broken where there is none
abbrev pub nth_list : List (List Violation) → ℕ → List Violation
nth_list [] k = []
nth_list (a ∷ as') zero = a
nth_list (a ∷ as') (suc k) = nth_list as' k

abbrev pub is_flagged : Option Bool → Bool
is_flagged None = false
is_flagged (Some b) = b

-- V-function g is read at `p`, where it breaks the rule `r` if it is one of those that may not be read
abbrev pub read : List Bool → Span → Rule → ℕ → List Violation
read flags p r g = if is_flagged (slice_get flags g) then breaks p r else []

-- All reads of flagged V-functions in an expression: at the call's place `p` where the expression itself reads, and where
-- an argument reads at its own place.
abbrev mutual
  pub reads_put : List Bool → Span → Rule → List (List Violation) → Tree → List Violation
  reads_put flags p r as' (Const v) = []
  reads_put flags p r as' (Var k) = nth_list as' k
  reads_put flags p r as' (Not a) = reads_put flags p r as' a
  reads_put flags p r as' (Two o a b) = reads_put flags p r as' a ++ reads_put flags p r as' b
  reads_put flags p r as' (If c a b) = reads_put flags p r as' c ++ (reads_put flags p r as' a ++ reads_put flags p r as' b)
  reads_put flags p r as' (Param n ds) = reads_put_in flags p r as' ds
  reads_put flags p r as' (Look g ds) = read flags p r g ++ reads_put_in flags p r as' ds
  reads_put flags p r as' (Every k t b) = reads_put flags p r as' b
  reads_put flags p r as' (New g ds) = read flags p r g ++ reads_put_in flags p r as' ds

  pub reads_put_in : List Bool → Span → Rule → List (List Violation) → Trees → List Violation
  reads_put_in flags p r as' none = []
  reads_put_in flags p r as' (more d ds) = reads_put flags p r as' d ++ reads_put_in flags p r as' ds

abbrev pub some_or_none : Option (Option Violation) → Option Violation
some_or_none None = None
some_or_none (Some f) = f

-- these are the firsts of the lists
abbrev pub AreFirsts : List (List Violation) → List (Option Violation) → Type 0
AreFirsts as' xs = (k : ℕ) → some_or_none (slice_get xs k) ≡ first (nth_list as' k)
