-- What holds of decisions, for the laws of commands.
use Rattle.std.specs.Prelude.{◌≡◌, ℕ, List, Option, Ok}
use Rattle.std.specs.List.{All}
use Rattle.sp_outside.specs.Files.{Files}
use Rattle.sp_core.specs.Parts.{Parts}
use Rattle.sp_sequent.specs.Claims.{question_of}
use Rattle.sp_claims.specs.Laws.{HasNoOpenBranch}
use Rattle.sp_formulas.specs.Formulas.{Formula}
use Rattle.sp_hold.specs.Holding.{claim}
use Rattle.sp_frame.specs.Laws.{IsLawful}
use Rattle.sp_deciding.specs.Decided.{AllDecided, open_count}
use Rattle.sp_deciding.specs.declared.deciding.Decision.{Decision}

-- deciding comes to one outcome at most, and its refusals say nothing of files
abbrev pub DecidedLaw : Type 0
DecidedLaw = (files : Files) (owner : Option (List ℕ)) (p : Parts) (n : ℕ) (os : List Formula) → IsLawful files (AllDecided owner p n os)

-- no branch of the formula is open
abbrev pub IsClosed : Parts → Formula → Type 0
IsClosed p o = HasNoOpenBranch (question_of p (claim o))

-- where no decision is open, no formula has an open branch
abbrev pub ClosedLaw : Type 0
ClosedLaw = (owner : Option (List ℕ)) (p : Parts) (n : ℕ) (os : List Formula) (ds : List Decision) → AllDecided owner p n os (Ok ds) → open_count ds ≡ 0 → All (IsClosed p) os
