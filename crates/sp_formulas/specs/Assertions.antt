-- The instances of assertions at a formula's variables.
use Rattle.std.specs.Prelude.{◌<◌, ℕ, ◌+◌, ◌-◌, if◌then◌else◌, nat_lt, List, [], ◌∷◌, length, map, slice_index}
use Rattle.std.specs.List.{flat_map}
use Rattle.sp_text.specs.declared.limits.TheConstants.{MOST_ASSERTION_INSTANCES}
use Rattle.sp_values.specs.declared.value.Value.TheVariants as value
use Rattle.sp_values.specs.declared.value.Ty.{Ty}
use Rattle.sp_values.specs.declared.value.Op.TheVariants as op
use Rattle.sp_values.specs.Domains.{has_unknown}
use Rattle.sp_core.specs.declared.function.Assertion.{Assertion}
use Rattle.sp_core.specs.Machine.{types_of}
use Rattle.sp_core.specs.Tree.{Tree, Const, Var, Two, tree}
use Rattle.sp_sequent.specs.Same.{same_type}
use Rattle.sp_formulas.specs.declared.tuples.Refused.{Refused}
use Rattle.sp_formulas.specs.declared.tuples.Refused.TheVariants as refused
use Rattle.sp_formulas.specs.Moves.{renumbered}

-- the numbers of the variables of a type, the first variable having the number k
abbrev pub variables_of : Ty → ℕ → List Ty → List ℕ
variables_of t k [] = []
variables_of t k (u ∷ us) = if same_type t u then k ∷ variables_of t (k + 1) us else variables_of t (k + 1) us

-- the lists of variables of these types, in lexicographic order
abbrev pub tuples : List Ty → List Ty → List (List ℕ)
tuples vars [] = [] ∷ []
tuples vars (t ∷ ts) = flat_map (λ k. map (λ ks. k ∷ ks) (tuples vars ts)) (variables_of t 0 vars)

-- those that begin with one of the variables firsts
abbrev pub tuples_with : List Ty → List Ty → List ℕ → List (List ℕ)
tuples_with vars ts firsts = flat_map (λ k. map (λ ks. k ∷ ks) (tuples vars ts)) firsts

-- the first variables are those of the tuple, and each further number is as far from n as it was from their count
abbrev pub placed : List ℕ → ℕ → ℕ → ℕ
placed ks n k = if nat_lt k (length ks) then slice_index ks k else n + (k - length ks)

abbrev pub instanced : List ℕ → ℕ → Tree → Tree
instanced ks n = renumbered (placed ks n) (λ k. n + (k - length ks))

-- x = ?
abbrev pub is_unknown : ℕ → Tree
is_unknown k = Two op.Same (Var k) (Const value.Unknown)

-- (x = ?) OR before it, for each variable of the tuple whose type has `?`
abbrev pub shielded : List ℕ → List Ty → Tree → Tree
shielded (k ∷ ks) (t ∷ ts) b = if has_unknown t then Two op.Or (is_unknown k) (shielded ks ts b) else shielded ks ts b
shielded ks ts b = b

-- the instance at a tuple, in a formula of n variables
abbrev pub instance_of : ℕ → Assertion → List ℕ → Tree
instance_of n a ks = shielded ks (types_of a.vars) (instanced ks n (tree a.body))

abbrev pub instances_of : List Ty → Assertion → List Tree
instances_of vars a = map (instance_of (length vars) a) (tuples vars (types_of a.vars))

-- those of all assertions in order
abbrev pub instances : List Assertion → List Ty → List Tree
instances as' vars = flat_map (instances_of vars) as'

-- a refusal other than for want of memory comes where there would be more than a formula has room for
abbrev pub IsTooMany : ℕ → Refused → Type 0
IsTooMany n refused.TooMany = MOST_ASSERTION_INSTANCES < n
IsTooMany n refused.Memory = Unit {0}
