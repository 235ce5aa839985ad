-- A call that finds a proof or an open branch does the step that decides the formula, and so does one that stops because too many atoms
-- are undetermined.
use Rattle.std.proofs.Common.{◌≡◌, ℕ, None, Ok, Some, Err}
use Rattle.sp_text.specs.declared.fault.Quantity.TheVariants as quantity
use Rattle.sp_core.specs.Parts.{Parts}
use Rattle.sp_sequent.specs.Claims.{question_of}
use Rattle.sp_formulas.specs.Formulas.{Formula}
use Rattle.sp_hold.specs.Holding.{claim}
use Rattle.sp_prover.specs.Deciding.{IsRefused, LeavesFew}
use Rattle.sp_prover.specs.declared.branch.DecideFault.TheVariants.{TooManyAtoms}
use Rattle.sp_frame.specs.declared.refusal.Stop.{Stop}
use Rattle.sp_frame.specs.declared.refusal.Stop.TheVariants as stop
use Rattle.sp_frame.specs.declared.refusal.WorkPlace.TheVariants as work_place
use Rattle.sp_frame.specs.Steps.{Does, StopsFor}
use Rattle.sp_formula_list.specs.Listed.{exceeded}
use Rattle.sp_deciding.specs.Decided.{FormulaDecided}
use Rattle.sp_prove_command.specs.Kept.{IsFound, as_decision, decision_found}
use Rattle.sp_prove_command.specs.declared.proving.Found.{Found}
use Rattle.sp_prove_command.specs.declared.proving.Found.TheVariants as found

module _ (p : Parts) (n : ℕ) (o : Formula) where
  pub decides : (f : Found) → IsFound (question_of p (claim o)) f → LeavesFew (question_of p (claim o)) → Does (FormulaDecided None p n o) (as_decision (Ok f))
  decides (found.Proved c) h few = (h.closed, few)
  decides (found.Open vs) h few = (h, few)

  pub stops : (k : ℕ) (s : Stop) → IsRefused (question_of p (claim o)) (TooManyAtoms k) → StopsFor (exceeded None quantity.Atoms (work_place.Formula n) (Some k)) s
      → Does (FormulaDecided None p n o) (as_decision (Err s))
  stops k (stop.Refused r) h e = (k, h, e)
  stops k stop.Memory h e = tt
