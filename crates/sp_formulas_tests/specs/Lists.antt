-- The flow formulas of the worked specifications, written down by hand.
use Rattle.std.specs.Prelude.{ℕ, List, [], ◌∷◌, codes}
use Rattle.std.specs.Fmt.{decimal}
use Rattle.sp_values.specs.declared.value.Op.TheVariants as op
use Rattle.sp_values.specs.declared.value.Ty.TheVariants as ty
use Rattle.sp_values.specs.declared.value.Value.TheVariants as value
use Rattle.sp_core.specs.declared.function.Formal.{Formal}
use Rattle.sp_core.specs.Tree.{Tree, Const, Var, Not, Two, Param, Look, Every, none, more}
use Rattle.sp_sequent.specs.declared.formula.FormulaKind.{FormulaKind}
use Rattle.sp_sequent.specs.declared.formula.FormulaKind.TheVariants as is
use Rattle.sp_formulas.specs.Formulas.{Formula}
use Rattle.sp_examples.specs.Common.{int}

-- Trees

abbrev pub level_low : Tree
level_low = Const (value.Level 0)

abbrev pub level_high : Tree
level_high = Const (value.Level 1)

abbrev pub numeral : ℕ → Tree
numeral n = Const (int n)

abbrev pub below : Tree → Tree → Tree
below a b = Two op.LevelLe a b

abbrev pub same : Tree → Tree → Tree
same a b = Two op.Same a b

-- `x = ?`, and its denial
abbrev pub unknown : ℕ → Tree
unknown k = same (Var k) (Const value.Unknown)

abbrev pub known : ℕ → Tree
known k = Not (unknown k)

-- a function at no arguments, and at one variable
abbrev pub value_of : ℕ → Tree
value_of g = Look g none

abbrev pub value_at : ℕ → ℕ → Tree
value_at g k = Look g (more (Var k) none)

-- Boxes: HIGH data decide where LOW `poke` writes

abbrev pub of_poke : FormulaKind → Tree → Formula
of_poke kind goal = record { kind = kind; fun = 2; name = codes "poke"; vars = []; hypotheses = []; goal = goal }

abbrev pub box_list : List Formula
box_list = of_poke is.Change (below level_low level_high) ∷ of_poke is.TargetReference (below level_high level_low) ∷ []

-- Switches: both changes are made where both switches are on, and give 1 and 2

abbrev pub of_op : FormulaKind → List Tree → Tree → Formula
of_op kind hyps goal = record { kind = kind; fun = 3; name = codes "op"; vars = []; hypotheses = hyps; goal = goal }

abbrev pub switch_list : List Formula
switch_list =
    of_op is.Change (value_of 0 ∷ []) (below level_low level_low)
    ∷ of_op is.GuardReference [] (below level_low level_low)
    ∷ of_op is.Change (value_of 1 ∷ []) (below level_low level_low)
    ∷ of_op is.GuardReference [] (below level_low level_low)
    ∷ of_op is.Agreement (value_of 0 ∷ value_of 1 ∷ []) (same (numeral 1) (numeral 2))
    ∷ []

-- Pools: nothing is assumed of a derivation's arguments, but the assertions hold for proper users

abbrev pub user_named : List ℕ → Formal
user_named name = record { name = name; ty = ty.Member 0 }

abbrev pub clearance_of : ℕ → Tree
clearance_of k = Param 0 (more (Var k) none)

abbrev pub base : Tree
base = Param 1 none

abbrev pub either : Tree → Tree → Tree
either a b = Two op.Or a b

abbrev pub pool_list : List Formula
pool_list = record {
  kind = is.DerivationReference;
  fun = 1;
  name = codes "seen";
  vars = user_named (codes "u") ∷ [];
  hypotheses = either (unknown 0) (below base (clearance_of 0)) ∷ [];
  goal = below base (clearance_of 0);
} ∷ []

-- an assertion about two users at users j and k
abbrev pub instance_at : ℕ → ℕ → Tree
instance_at j k = either (unknown j) (either (unknown k) (below base (Two op.Lub (clearance_of j) (clearance_of k))))

-- for one user of the formula it is about this one twice
abbrev pub repeated_list : List Formula
repeated_list = record {
  kind = is.DerivationReference;
  fun = 1;
  name = codes "seen";
  vars = user_named (codes "u") ∷ [];
  hypotheses = either (unknown 0) (below base (clearance_of 0)) ∷ instance_at 0 0 ∷ [];
  goal = below base (clearance_of 0);
} ∷ []

-- for two users about each two of them
abbrev pub both_list : List Formula
both_list = record {
  kind = is.DerivationReference;
  fun = 1;
  name = codes "both";
  vars = user_named (codes "u") ∷ user_named (codes "v") ∷ [];
  hypotheses = instance_at 0 0 ∷ instance_at 0 1 ∷ instance_at 1 0 ∷ instance_at 1 1 ∷ [];
  goal = below base level_low;
} ∷ []

-- Stacks: all levels are LOW

abbrev pub stack_variable : Formal
stack_variable = record { name = codes "s"; ty = ty.Member 0 }

abbrev pub of_push : FormulaKind → Formula
of_push kind = record {
  kind = kind;
  fun = 2;
  name = codes "push";
  vars = stack_variable ∷ record { name = codes "v"; ty = ty.Integer } ∷ [];
  hypotheses = known 0 ∷ known 1 ∷ [];
  goal = below level_low level_low;
}

abbrev pub of_pop : FormulaKind → List Tree → Formula
of_pop kind hyps = record {
  kind = kind;
  fun = 3;
  name = codes "pop";
  vars = stack_variable ∷ [];
  hypotheses = known 0 ∷ hyps;
  goal = below level_low level_low;
}

-- the stack isn't empty
abbrev pub not_empty : List Tree
not_empty = Not (same (value_at 0 0) (numeral 0)) ∷ []

abbrev pub stack_list : List Formula
stack_list =
    of_push is.Change
    ∷ of_push is.ValueReference
    ∷ of_push is.Change
    ∷ of_push is.TargetReference
    ∷ of_pop is.ExceptionReference []
    ∷ of_pop is.ResultReference not_empty
    ∷ of_pop is.ResultReference not_empty
    ∷ of_pop is.Change not_empty
    ∷ of_pop is.ValueReference not_empty
    ∷ []

-- Marks: bound variables are called by their numbers, and a quantifier's variable stands behind those of the formula

abbrev pub mark_named : List ℕ → Formal
mark_named name = record { name = name; ty = ty.Member 0 }

-- #0 and #1
abbrev pub first : Formal
first = mark_named (35 ∷ decimal 0)

abbrev pub second : Formal
second = mark_named (35 ∷ decimal 1)

abbrev pub each_is_one : ℕ → Tree
each_is_one k = Every k (ty.Member 0) (same (value_at 0 k) (numeral 1))

abbrev pub of_f : FormulaKind → List Formal → List Tree → Tree → Formula
of_f kind vars hyps goal = record { kind = kind; fun = 1; name = codes "f"; vars = vars; hypotheses = hyps; goal = goal }

abbrev pub mark_change : Formula
mark_change = of_f is.Change (first ∷ []) (known 0 ∷ Not (each_is_one 1) ∷ each_is_one 1 ∷ []) (below level_low level_low)

abbrev pub mark_guard : Formula
mark_guard = of_f is.GuardReference (first ∷ second ∷ []) (known 0 ∷ known 1 ∷ Not (each_is_one 2) ∷ []) (below level_low level_low)

-- the variables of both changes, and the guard that they share twice
abbrev pub mark_agreement : Formula
mark_agreement =
    of_f is.Agreement (first ∷ second ∷ []) (known 0 ∷ known 1 ∷ Not (each_is_one 2) ∷ each_is_one 2 ∷ each_is_one 2 ∷ same (Var 0) (Var 1) ∷ [])
    (same (numeral 1) (numeral 2))

abbrev pub mark_list : List Formula
mark_list =
    of_f is.ExceptionReference (first ∷ []) (known 0 ∷ []) (below level_low level_low)
    ∷ mark_change
    ∷ mark_guard
    ∷ mark_change
    ∷ mark_guard
    ∷ mark_agreement
    ∷ []
