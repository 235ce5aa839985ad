-- What a mapping promises where the formulas of its lower specification and its own hold. Each law is proved at a function of
-- the same name.
use Rattle.std.specs.List.{All}
use Rattle.sp_core.specs.declared.mapping.Mapping.{Mapping}
use Rattle.sp_core.specs.Mappings.{IsMappingTo}
use Rattle.sp_core.specs.Parts.{Parts}
use Rattle.sp_core.specs.WellFormed.{IsWellFormed}
use Rattle.sp_sequent.specs.Claims.{question_of}
use Rattle.sp_claims.specs.Laws.{HasNoOpenBranch}
use Rattle.sp_formulas.specs.Formulas.{Formula, formulas}
use Rattle.sp_hold.specs.Holding.{AllHold, claim}
use Rattle.sp_map_formulas.specs.Rows.{map_formulas}
use Rattle.sp_map_laws.specs.Views.{HidesViews}

-- where each flow formula of a well-formed specification holds, and each of a mapping to it, what is seen through the mapping
-- hides all that is above
abbrev pub ViewsLaw : Type 0
ViewsLaw = (p : Parts) (m : Mapping) → IsWellFormed p → IsMappingTo p m → AllHold p (formulas p) → AllHold p (map_formulas p m) → HidesViews p m

-- no branch of the formula is open
abbrev pub IsClosed : Parts → Formula → Type 0
IsClosed p o = HasNoOpenBranch (question_of p (claim o))

-- the same where no formula has an open branch
abbrev pub ClosedViewsLaw : Type 0
ClosedViewsLaw = (p : Parts) (m : Mapping) → IsWellFormed p → IsMappingTo p m → All (IsClosed p) (formulas p) → All (IsClosed p) (map_formulas p m) → HidesViews p m
