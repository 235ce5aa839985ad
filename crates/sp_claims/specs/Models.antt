-- When a formula holds, and what its subterms are worth in an instance, over two states and at values of its variables.
use Rattle.std.specs.Prelude.{◌≡◌, ℕ, Bool, false, IsTrue, List, map, slice_index_or}
use Rattle.std.specs.List.{All}
use Rattle.sp_values.specs.declared.value.Value.{Value}
use Rattle.sp_values.specs.declared.value.Value.TheVariants as value
use Rattle.sp_values.specs.declared.value.Ty.{Ty}
use Rattle.sp_values.specs.declared.value.Ty.TheVariants as ty
use Rattle.sp_values.specs.Domains.{are_values}
use Rattle.sp_core.specs.Instances.{Filling, IsInstance, machine_of, sizes_of, world_of}
use Rattle.sp_core.specs.Machine.{IsState, Machine}
use Rattle.sp_core.specs.Parts.{Parts, signature}
use Rattle.sp_core.specs.Tree.{Tree, Const}
use Rattle.sp_core.specs.Typing.{HasType}
use Rattle.sp_core.specs.Values.{Store, is_true, look, value_over}
use Rattle.sp_rules.specs.Terms.{Terms}
use Rattle.sp_sequent.specs.Numbers.{nodes_of}
use Rattle.sp_sequent.specs.OwnTypes.{atoms_from, is_level}
use Rattle.sp_sequent.specs.Subterms.{quantified}
use Rattle.sp_sequent.specs.Claims.{Claim}
use Rattle.sp_readings.specs.Readings.{Reading}

-- the expression is TRUE over what two states give
abbrev pub IsHeldOver : Machine → Store → Store → List Value → Tree → Type 0
IsHeldOver m s t x e = IsTrue (is_true (value_over m.world m.functions s t x e))

-- a formula holds over two states: for all values of its variables, `?` included, its goal is TRUE where all hypotheses are
abbrev pub HoldsOver : Machine → Store → Store → Claim → Type 0
HoldsOver m s t c = (x : List Value) → IsTrue (are_values m.world.sizes c.types x) → All (IsHeldOver m s t x) c.hypotheses → IsHeldOver m s t x c.goal

-- it holds in an instance
abbrev pub HoldsIn : Machine → Claim → Type 0
HoldsIn m c = (s t : Store) → IsState m s → IsState m t → HoldsOver m s t c

-- it holds: in every instance
abbrev pub ClaimHolds : Parts → Claim → Type 0
ClaimHolds p c = (i : Filling) → IsInstance p i → HoldsIn (machine_of p i) c

-- an instance, an old and a new state, and values of the variables
pub record Moment : Type 0 where
  pub instance : Filling
  pub old : Store
  pub new : Store
  pub values : List Value

pub record IsMoment (p : Parts) (xs : List Ty) (m : Moment) : Type 0 where
  pub instance : IsInstance p m.instance
  pub old : IsState (machine_of p m.instance) m.old
  pub new : IsState (machine_of p m.instance) m.new
  pub values : IsTrue (are_values (sizes_of p m.instance) xs m.values)

abbrev pub worth : Parts → Moment → Tree → Value
worth p m e = value_over (world_of p m.instance) p.functions m.old m.new m.values e

abbrev pub is_true_in : Parts → Moment → Tree → Bool
is_true_in p m e = is_true (worth p m e)

abbrev pub AreTrue : Parts → Moment → List Tree → Type 0
AreTrue p m es = All (λ e. IsTrue (is_true_in p m e)) es

-- the hypotheses are TRUE and the goal FALSE
pub record IsAgainst (p : Parts) (c : Claim) (m : Moment) : Type 0 where
  pub moment : IsMoment p c.types m
  pub hypotheses : AreTrue p m c.hypotheses
  pub goal : is_true_in p m c.goal ≡ false

-- an expression of type BOOLEAN
abbrev pub IsBoolean : Parts → List Ty → Tree → Type 0
IsBoolean p xs e = HasType (signature p) xs e ty.Boolean

-- Terms

abbrev pub tree_at : List Tree → ℕ → Tree
tree_at ts i = slice_index_or ts i (Const (value.Truth false))

-- the terms of these subterms, as the rules see them
abbrev pub terms_over : Parts → List Ty → List Tree → Terms
terms_over p xs ts = record { nodes = nodes_of ts; levels = map (is_level (signature p) xs) ts; lattice = p.lattice }

-- what the terms are worth, by their numbers
abbrev pub worth_at : Parts → Moment → List Tree → ℕ → Value
worth_at p m ts i = worth p m (tree_at ts i)

abbrev pub reading_of : Parts → Moment → List Tree → Reading
reading_of p m ts = record {
  world = world_of p m.instance;
  old = look (world_of p m.instance) p.functions m.old;
  new = look (world_of p m.instance) p.functions m.new;
  variables = m.values;
  quantified = worth_at p m (quantified ts);
}

abbrev pub atoms_in : Parts → List Ty → List Tree → List ℕ
atoms_in p xs ts = atoms_from (signature p) xs 0 ts
