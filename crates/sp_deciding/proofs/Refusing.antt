-- A call that stops because too many atoms are undetermined does the step that decides the formula.
use Rattle.std.proofs.Common.{◌≡◌, ℕ, List, Option, Some, Err}
use Rattle.sp_text.specs.declared.fault.Quantity.TheVariants as quantity
use Rattle.sp_rules.specs.Questions.{Question}
use Rattle.sp_prover.specs.Deciding.{IsRefused}
use Rattle.sp_prover.specs.declared.branch.DecideFault.TheVariants.{TooManyAtoms}
use Rattle.sp_frame.specs.declared.refusal.Stop.{Stop}
use Rattle.sp_frame.specs.declared.refusal.Stop.TheVariants as stop
use Rattle.sp_frame.specs.declared.refusal.WorkPlace.TheVariants as work_place
use Rattle.sp_frame.specs.Steps.{Does, StopsFor}
use Rattle.sp_formula_list.specs.Listed.{exceeded}
use Rattle.sp_deciding.specs.Decided.{IsDecided}

pub stops : (owner : Option (List ℕ)) (n : ℕ) (q : Question) (k : ℕ) (s : Stop) → IsRefused q (TooManyAtoms k)
    → StopsFor (exceeded owner quantity.Atoms (work_place.Formula n) (Some k)) s → Does (IsDecided owner n q) (Err s)
stops owner n q k (stop.Refused r) h e = (k, h, e)
stops owner n q k stop.Memory h e = tt
