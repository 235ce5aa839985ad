-- The rows of a hierarchy stand in an order: no interface is the upper one of two rows, and no row closes a cycle. For how a hierarchy is judged.
use Rattle.std.specs.Prelude.{◌≡◌, ◌⊎◌, ℕ, zero, suc, List, [], ◌∷◌, ◌++◌}
use Rattle.std.specs.List.{Contains}
use Rattle.sp_text.specs.declared.fault.Rule.{Rule}
use Rattle.sp_text.specs.declared.fault.Rule.TheVariants as rule
use Rattle.sp_tree.specs.declared.names.Ident.{Ident}
use Rattle.sp_frame.specs.declared.refusal.Refusal.{Refusal}
use Rattle.sp_frame.specs.declared.refusal.Refusal.TheVariants as refusal
use Rattle.sp_frame.specs.Steps.{Demand, Gives, Step, Then}

-- the interface of this name is the upper one of a row
abbrev pub IsUpper : List (Ident × Ident × Ident) → List ℕ → Type 0
IsUpper [] x = ⊥
IsUpper (row ∷ rows) x = (row.0.name ≡ x) ⊎ IsUpper rows x

-- a row of these puts interface x over interface y
abbrev pub IsOver : List (Ident × Ident × Ident) → List ℕ → List ℕ → Type 0
IsOver [] x y = ⊥
IsOver (row ∷ rows) x y = ((row.0.name ≡ x) × (row.1.name ≡ y)) ⊎ IsOver rows x y

-- a chain of n rows leads down from interface x to interface y
abbrev pub Leads : List (Ident × Ident × Ident) → ℕ → List ℕ → List ℕ → Type 0
Leads rows zero x y = x ≡ y
Leads rows (suc n) x z = (y : List ℕ) × IsOver rows x y × Leads rows n y z

-- interface x stands above interface y, or is y
abbrev pub IsAbove : List (Ident × Ident × Ident) → List ℕ → List ℕ → Type 0
IsAbove rows x y = (n : ℕ) × Leads rows n x y

-- the row breaks a rule in the hierarchy of this file, at its first name
abbrev pub broken_row : List ℕ → Ident × Ident × Ident → Rule → Refusal
broken_row file row r = refusal.Broken file (record { span = row.0.span; rule = r })

-- The row behind these others: its upper interface isn't declared a second time, and it closes no cycle, which it does where its lower interface is
-- its upper one or stands above it already.
abbrev pub RowJudged : List ℕ → List (Ident × Ident × Ident) → Ident × Ident × Ident → Step (Unit {0})
RowJudged file before row =
    Then (Demand (¬ IsUpper before row.0.name) (broken_row file row rule.TwiceDeclared)) (λ _.
    Demand (¬ IsAbove before row.1.name row.0.name) (broken_row file row rule.Cyclic))

-- each row in order, behind those before it
abbrev pub RowsJudged : List ℕ → List (Ident × Ident × Ident) → List (Ident × Ident × Ident) → Step (Unit {0})
RowsJudged file before [] = Gives tt
RowsJudged file before (row ∷ rows) = Then (RowJudged file before row) (λ _. RowsJudged file (before ++ row ∷ []) rows)
