-- An interface is judged with its modules: they stand for a specification, or the first of what they break is told, in the text
-- where it stands. For the work of each command.
use Rattle.std.specs.Prelude.{◌≡◌, ◌≢◌, ℕ, zero, suc, List, [], Option, Some, None, Result, Ok, Err, slice_get}
use Rattle.sp_text.specs.declared.fault.Malformed.{Malformed}
use Rattle.sp_text.specs.declared.fault.Rule.{Rule}
use Rattle.sp_text.specs.declared.fault.Rule.TheVariants as rule
use Rattle.sp_text.specs.declared.fault.SpecFault.{SpecFault}
use Rattle.sp_text.specs.declared.fault.TextFault.{TextFault}
use Rattle.sp_text.specs.declared.fault.TextFault.TheVariants as fault
use Rattle.sp_text.specs.declared.violation.FileViolation.{FileViolation}
use Rattle.sp_text.specs.Violations.{JudgesFiles}
use Rattle.sp_tree.specs.declared.interface.InterfaceTree.{InterfaceTree}
use Rattle.sp_tree.specs.declared.interface.LatticeTree.{LatticeTree}
use Rattle.sp_tree.specs.declared.interface.LatticeTree.TheVariants as lattice
use Rattle.sp_tree.specs.declared.module.Module.{Module}
use Rattle.sp_tree.specs.declared.names.Ident.{Ident}
use Rattle.sp_scopes.specs.declared.scopes.Scopes.{Scopes}
use Rattle.sp_scopes.specs.Scopes.{scopes_of}
use Rattle.sp_core.specs.Parts.{Parts}
use Rattle.sp_core.specs.WellFormed.{IsWellFormed}
use Rattle.sp_specification.specs.Broken.{AreBroken}
use Rattle.sp_specification.specs.Meaning.{IsSpecOf}
use Rattle.sp_frame.specs.declared.refusal.Refusal.{Refusal}
use Rattle.sp_frame.specs.declared.refusal.Refusal.TheVariants as refusal
use Rattle.sp_frame.specs.Steps.{Step}
use Rattle.sp_frame.specs.Told.{Told}
use Rattle.sp_sorts.specs.Sorts.{module_file}
use Rattle.sp_system.specs.declared.interface.Elaborated.{Elaborated}

module _ (i : InterfaceTree) (ms : List Module) where
  -- this is all that the trees break
  pub record IsAllBroken (vs : List FileViolation) : Type 0 where
    pub broken : AreBroken i ms vs
    pub only : (ws : List FileViolation) → AreBroken i ms ws → ws ≡ vs

  -- the trees stand for this specification, and for no other
  pub record IsOnlySpec (p : Parts) : Type 0 where
    pub meant : IsSpecOf i ms p
    pub well_formed : IsWellFormed p
    pub only : (q : Parts) → IsSpecOf i ms q → IsWellFormed q → q ≡ p

  -- the specification with all that is declared
  pub record IsOnlyElaborated (r : Parts × Scopes) : Type 0 where
    pub spec : IsOnlySpec r.0
    pub scopes : r.1 ≡ scopes_of i ms

  -- What judging the trees answers, where that isn't want of memory: they break nothing and this is what they stand for, or the fault
  -- is the first of what they break.
  pub record Elaborates (out : Result (Parts × Scopes) SpecFault) : Type 0 where
    pub all : List FileViolation
    pub broken : IsAllBroken all
    pub judges : JudgesFiles all IsOnlyElaborated out
    pub definite : (f : SpecFault) → out ≡ Err f → f.fault ≢ fault.Memory

-- the call answers so, unless memory was refused
abbrev pub TellsFiles : {A : Type 0} → (Result A SpecFault → Type 0) → Result A SpecFault → Type 0
TellsFiles answers (Ok x) = answers (Ok x)
TellsFiles answers (Err f) = f.fault ≢ fault.Memory → answers (Err f)

-- ---- the text in which a fault stands

abbrev pub module_of : Option Ident → List ℕ
module_of None = []
module_of (Some m) = module_file m.name

-- the file of text k: 0 is the interface, and then come its modules
abbrev pub file_of : List ℕ → InterfaceTree → ℕ → List ℕ
file_of file i zero = file
file_of file i (suc k) = module_of (slice_get i.modules k)

abbrev pub name_if : Option Ident → List ℕ
name_if None = []
name_if (Some x) = x.name

-- the name of a level by its number among those that LATTICE lists; a product declares no order, and breaks no rule of orders
abbrev pub level_name : LatticeTree → ℕ → List ℕ
level_name (lattice.Order p names chains) k = name_if (slice_get names k)
level_name (lattice.Product p chain categories) k = []

-- the two levels of which a rule of orders speaks, by their numbers
abbrev pub level_pair : Rule → Option (ℕ × ℕ)
level_pair (rule.Cycle x y) = Some (x, y)
level_pair (rule.NoLub x y) = Some (x, y)
level_pair (rule.NoGlb x y) = Some (x, y)
level_pair r = None

-- the refusal for a rule that is broken in the text of this name; to a rule of orders belong the names of its levels
abbrev pub broken_at : LatticeTree → List ℕ → Malformed → Option (ℕ × ℕ) → Refusal
broken_at l name m None = refusal.Broken name m
broken_at l name m (Some p) = refusal.BrokenOrder name m (level_name l p.0) (level_name l p.1)

abbrev pub broken_in : LatticeTree → List ℕ → Malformed → Refusal
broken_in l name m = broken_at l name m (level_pair m.rule)

-- a fault in the text of this name, as the outcome of the step; want of memory is none
abbrev pub IsFaulty : InterfaceTree → List ℕ → TextFault → Step Elaborated
IsFaulty i name (fault.Malformed m) out = out ≡ Err (broken_in i.lattice name m)
IsFaulty i name (fault.Limit l) out = out ≡ Err (refusal.Exceeded name l)
IsFaulty i name fault.Memory out = ⊥

-- the answer about the interface in this file, as the outcome of the step
abbrev pub IsFiled : List ℕ → InterfaceTree → Result (Parts × Scopes) SpecFault → Step Elaborated
IsFiled file i (Ok r) out = out ≡ Ok (record { spec = r.0; scopes = r.1 })
IsFiled file i (Err f) out = IsFaulty i (file_of file i f.file) f.fault out

-- the interface in this file is judged with its modules
abbrev pub InterfaceJudged : List ℕ → InterfaceTree → List Module → Step Elaborated
InterfaceJudged file i ms = Told (IsFiled file i) (Elaborates i ms)
