-- What expressions are evaluated over, and what the parts of the evaluator ask of one another. The numbering of proper
-- values is for each layer that goes over them.
use Rattle.std.specs.Prelude.{ℕ, ◌+◌, ◌<◌, ◌≤◌, not, ◌==◌, IsTrue, List, [], ◌∷◌, ◌++◌, length}
use Rattle.sp_values.specs.declared.value.Ty.{Ty}
use Rattle.sp_values.specs.declared.value.Ty.TheVariants as ty
use Rattle.sp_values.specs.declared.value.Op.{Op}
use Rattle.sp_values.specs.declared.value.Op.TheVariants as op
use Rattle.sp_values.specs.declared.value.Value.{Value}
use Rattle.sp_values.specs.declared.value.Value.TheVariants as value
use Rattle.sp_values.specs.Arithmetic.{IsInteger}
use Rattle.sp_values.specs.Domains.{Sizes, are_values}
use Rattle.sp_core.specs.declared.state.Entry.{Entry}
use Rattle.sp_core.specs.Instances.{InstanceParts, IsInstanceOf, filling_of, machine_of, sizes_of, world_of}
use Rattle.sp_core.specs.Machine.{IsState}
use Rattle.sp_core.specs.Measures.{LookAt, LooksAt, quantifiers, quantifiers_in, rank}
use Rattle.sp_core.specs.Parts.{Parts, signature}
use Rattle.sp_core.specs.States.{entry_of}
use Rattle.sp_core.specs.Tree.{Tree, Trees}
use Rattle.sp_core.specs.Typing.{HasType, HaveTypes, is_finite}
use Rattle.sp_core.specs.Values.{Reads, World, level_number, look, value_of, values_of}
use Rattle.sp_core.specs.WellFormed.{IsWellFormed}
use Rattle.sp_eval.specs.Conditions.{IsTypedIn}

-- a specification with an instance, and the entries of an old and of a new state
pub record Setting : Type 0 where
  pub parts : Parts
  pub instance : InstanceParts
  pub old : List Entry
  pub new : List Entry

-- well-formed parts, an instance of them, and two states of their machine
pub record IsSetting (s : Setting) : Type 0 where
  pub well_formed : IsWellFormed s.parts
  pub instance : IsInstanceOf s.parts s.instance
  pub old : IsState (machine_of s.parts (filling_of s.instance)) (entry_of s.old)
  pub new : IsState (machine_of s.parts (filling_of s.instance)) (entry_of s.new)

abbrev pub world : Setting → World
world s = world_of s.parts (filling_of s.instance)

abbrev pub sizes : Setting → Sizes
sizes s = sizes_of s.parts (filling_of s.instance)

-- what the V-functions give in the old state, and in the new one
abbrev pub old_reads : Setting → Reads
old_reads s = look (world s) s.parts.functions (entry_of s.old)

abbrev pub new_reads : Setting → Reads
new_reads s = look (world s) s.parts.functions (entry_of s.new)

-- the value of an expression, and the values of several
abbrev pub tree_value : Setting → List Value → Tree → Value
tree_value s = value_of (world s) (old_reads s) (new_reads s)

abbrev pub tree_values : Setting → List Value → Trees → List Value
tree_values s = values_of (world s) (old_reads s) (new_reads s)

-- the function has a rank below the bound
abbrev pub IsRankedBelow : Setting → ℕ → ℕ → Type 0
IsRankedBelow s bound g = rank s.parts.functions g < bound

-- the expression is typed in the environment, and the functions that it reads have ranks below the bound
pub record IsReady (s : Setting) (bound : ℕ) (x : List Value) (e : Tree) : Type 0 where
  pub typed : IsTypedIn s.parts s.instance x e
  pub reads : LooksAt (IsRankedBelow s bound) (IsRankedBelow s bound) e

-- the same of expressions of the types ts
pub record AreReadyFor (s : Setting) (bound : ℕ) (x : List Value) (ds : Trees) (xs ts : List Ty) : Type 0 where
  pub values : IsTrue (are_values (sizes s) xs x)
  pub typed : HaveTypes (signature s.parts) xs ds ts
  pub room : length x + quantifiers_in ds ≤ 16
  pub reads : LookAt (IsRankedBelow s bound) (IsRankedBelow s bound) ds

abbrev pub AreReady : Setting → ℕ → List Value → Trees → Type 0
AreReady s bound x ds = (xs : List Ty) × (ts : List Ty) × AreReadyFor s bound x ds xs ts

-- the body of a quantifier over type t is ready, with one more variable of this type
pub record IsBodyFor (s : Setting) (bound : ℕ) (x : List Value) (t : Ty) (b : Tree) (xs : List Ty) : Type 0 where
  pub values : IsTrue (are_values (sizes s) xs x)
  pub finite : IsTrue (is_finite (signature s.parts) t)
  pub typed : HasType (signature s.parts) (xs ++ t ∷ []) b ty.Boolean
  pub room : length x + 1 + quantifiers b ≤ 16
  pub reads : LooksAt (IsRankedBelow s bound) (IsRankedBelow s bound) b

abbrev pub IsBody : Setting → ℕ → List Value → Ty → Tree → Type 0
IsBody s bound x t b = (xs : List Ty) × IsBodyFor s bound x t b xs

-- how many proper values a type has that a quantifier may range over
abbrev pub population : Sizes → Ty → ℕ
population sz ty.Boolean = 2
population sz ty.Integer = 0
population sz ty.Level = sz.levels
population sz (ty.Member k) = sz.members k

-- the proper value of a number: FALSE is 0, TRUE is 1, and levels and members have numbers
abbrev pub proper_at : Ty → ℕ → Value
proper_at ty.Boolean k = value.Truth (not (k == 0))
proper_at ty.Integer k = value.Unknown
proper_at ty.Level k = value.Level k
proper_at (ty.Member j) k = value.Member j k

-- what an operator asks of an operand: a level, or an integer
abbrev pub IsOperand : ℕ → Op → Value → Type 0
IsOperand levels op.LevelLe v = level_number v < levels
IsOperand levels op.Lub v = level_number v < levels
IsOperand levels op.Glb v = level_number v < levels
IsOperand levels op.IntLe v = IsInteger v
IsOperand levels op.IntLt v = IsInteger v
IsOperand levels op.Add v = IsInteger v
IsOperand levels op.Sub v = IsInteger v
IsOperand levels op.Mul v = IsInteger v
IsOperand levels o v = Unit {0}
