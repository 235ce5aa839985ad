-- Formulas over a specification are decided one after the other, as a step of a command.
use Rattle.std.specs.Prelude.{◌≡◌, ℕ, ◌+◌, suc, Bool, List, [], ◌∷◌, Option, Some, Ok, Err}
use Rattle.sp_text.specs.declared.fault.Quantity.TheVariants as quantity
use Rattle.sp_core.specs.Parts.{Parts}
use Rattle.sp_rules.specs.Questions.{Question}
use Rattle.sp_sequent.specs.Claims.{question_of}
use Rattle.sp_claims.specs.Laws.{HasNoOpenBranch}
use Rattle.sp_formulas.specs.Formulas.{Formula}
use Rattle.sp_hold.specs.Holding.{claim}
use Rattle.sp_prover.specs.Deciding.{IsFirstOpen, IsRefused, LeavesFew}
use Rattle.sp_prover.specs.declared.branch.Branch.{Branch}
use Rattle.sp_prover.specs.declared.branch.DecideFault.TheVariants.{TooManyAtoms}
use Rattle.sp_frame.specs.declared.refusal.WorkPlace.TheVariants as work_place
use Rattle.sp_frame.specs.Steps.{Gives, Step, Then}
use Rattle.sp_formula_list.specs.Listed.{exceeded}
use Rattle.sp_deciding.specs.declared.deciding.Decision.{Decision}
use Rattle.sp_deciding.specs.declared.deciding.Decision.TheVariants as decision

-- the truth values of the atoms, in order, in the first open branch
abbrev pub IsFirstBranch : Question → List Bool → Type 0
IsFirstBranch q vs = (b : Branch) × IsFirstOpen q b × (b.values.items ≡ vs)

-- no branch is open, or this is the first that is
abbrev pub IsDecision : Question → Decision → Type 0
IsDecision q decision.Proved = HasNoOpenBranch q
IsDecision q (decision.Open vs) = IsFirstBranch q vs

-- the interface or mapping whose formulas they are, where the work is on several
module _ (owner : Option (List ℕ)) where
  -- formula number n is decided; or too many atoms are undetermined, and the refusal tells how many
  abbrev pub IsDecided : ℕ → Question → Step Decision
  IsDecided n q (Ok d) = IsDecision q d × LeavesFew q
  IsDecided n q (Err r) = (k : ℕ) × IsRefused q (TooManyAtoms k) × (r ≡ exceeded owner quantity.Atoms (work_place.Formula n) (Some k))

  abbrev pub FormulaDecided : Parts → ℕ → Formula → Step Decision
  FormulaDecided p n o = IsDecided n (question_of p (claim o))

  -- each formula in order, of which the first has number n
  abbrev pub AllDecided : Parts → ℕ → List Formula → Step (List Decision)
  AllDecided p n [] = Gives []
  AllDecided p n (o ∷ os) =
      Then (FormulaDecided p n o) (λ d.
      Then (AllDecided p (n + 1) os) (λ ds.
      Gives (d ∷ ds)))

-- how many are open
abbrev pub open_count : List Decision → ℕ
open_count [] = 0
open_count (decision.Proved ∷ ds) = open_count ds
open_count (decision.Open vs ∷ ds) = suc (open_count ds)
