-- The rules and limits that texts break, as lists, and what an answer is by them: it comes exactly where the list is empty,
-- and else a refusal names the first of the list. For all that judges texts.
use Rattle.std.specs.Prelude.{◌≡◌, Result, Ok, Err, ℕ, ◌+◌, List, [], ◌∷◌, map, Bool, Option, Some, nat_lt, nat_eq, ◌&&◌, ◌||◌}
use Rattle.sp_text.specs.declared.fault.Quantity.{Quantity}
use Rattle.sp_text.specs.declared.fault.Rule.{Rule}
use Rattle.sp_text.specs.declared.fault.Span.{Span}
use Rattle.sp_text.specs.declared.fault.SpecFault.{SpecFault}
use Rattle.sp_text.specs.declared.fault.TextFault.{TextFault}
use Rattle.sp_text.specs.declared.fault.TextFault.TheVariants as fault
use Rattle.sp_text.specs.declared.violation.FileViolation.{FileViolation}
use Rattle.sp_text.specs.declared.violation.Requirement.{Requirement}
use Rattle.sp_text.specs.declared.violation.Requirement.TheVariants as requirement
use Rattle.sp_text.specs.declared.violation.Violation.{Violation}
use Rattle.sp_text.specs.Firsts.{first_by}
use Rattle.sp_text.specs.Limits.{quantity_number}
use Rattle.sp_text.specs.Rules.{rule_number}

-- by which what is broken at one place is ordered: a limit counts as 100, and of two limits the one that is listed first
abbrev pub number_of : Requirement → ℕ
number_of (requirement.Rule r) = rule_number r
number_of (requirement.Limit q) = 100 + quantity_number q

-- the rule is broken there, and no other
abbrev pub breaks : Span → Rule → List Violation
breaks p r = record { span = p; broken = requirement.Rule r } ∷ []

-- the quantity exceeds its greatest value there
abbrev pub exceeds : Span → Quantity → List Violation
exceeds p q = record { span = p; broken = requirement.Limit q } ∷ []

-- v stands before w: by its start, then by its number
abbrev pub sooner : Violation → Violation → Bool
sooner v w = nat_lt v.span.start w.span.start || (nat_eq v.span.start w.span.start && nat_lt (number_of v.broken) (number_of w.broken))

-- the first of what a text breaks
abbrev pub first : List Violation → Option Violation
first vs = first_by sooner vs

-- what one of several texts breaks
abbrev pub in_file : ℕ → List Violation → List FileViolation
in_file f vs = map (λ v. record { file = f; violation = v }) vs

-- by file, then start, then number
abbrev pub sooner_in_files : FileViolation → FileViolation → Bool
sooner_in_files v w = nat_lt v.file w.file || (nat_eq v.file w.file && sooner v.violation w.violation)

-- the first of what several texts break
abbrev pub first_in_files : List FileViolation → Option FileViolation
first_in_files vs = first_by sooner_in_files vs

-- the fault that names it
abbrev pub fault_of : Violation → TextFault
fault_of v = by v.broken
  where
    by : Requirement → TextFault
    by (requirement.Rule r) = fault.Malformed (record { span = v.span; rule = r })
    by (requirement.Limit q) = fault.Limit (record { span = v.span; quantity = q })

abbrev pub spec_fault_of : FileViolation → SpecFault
spec_fault_of v = record { file = v.file; fault = fault_of v.violation }

-- a refusal names the first of what is broken, or want of memory
abbrev pub Names : List Violation → TextFault → Type 0
Names vs (fault.Malformed m) = first vs ≡ Some (record { span = m.span; broken = requirement.Rule m.rule })
Names vs (fault.Limit l) = first vs ≡ Some (record { span = l.span; broken = requirement.Limit l.quantity })
Names vs fault.Memory = Unit {0}

abbrev pub NamesInFile : List FileViolation → ℕ → TextFault → Type 0
NamesInFile vs n (fault.Malformed m) = first_in_files vs ≡ Some (record { file = n; violation = record { span = m.span; broken = requirement.Rule m.rule } })
NamesInFile vs n (fault.Limit l) = first_in_files vs ≡ Some (record { file = n; violation = record { span = l.span; broken = requirement.Limit l.quantity } })
NamesInFile vs n fault.Memory = Unit {0}

-- an answer comes exactly where nothing is broken, and is as P says; else the first of what is broken is named
abbrev pub Judges : {A : Type 0} → List Violation → (A → Type 0) → Result A TextFault → Type 0
Judges vs P (Ok a) = (vs ≡ []) × P a
Judges vs P (Err f) = Names vs f

-- the same over several texts
abbrev pub JudgesFiles : {A : Type 0} → List FileViolation → (A → Type 0) → Result A SpecFault → Type 0
JudgesFiles vs P (Ok a) = (vs ≡ []) × P a
JudgesFiles vs P (Err f) = NamesInFile vs f.file f.fault
