-- The first limit that a list of formulas exceeds.
use Rattle.std.specs.Prelude.{ℕ, ◌+◌, nat_lt, if◌then◌else◌, List, [], ◌∷◌, length, Option, Some, None}
use Rattle.sp_text.specs.declared.limits.TheConstants.{MOST_ASSERTION_INSTANCES, MOST_FORMULAS, MOST_FORMULA_NODES, MOST_TERMS}
use Rattle.sp_core.specs.Machine.{types_of}
use Rattle.sp_core.specs.Parts.{Parts}
use Rattle.sp_sequent.specs.Limits.{formula_nodes, formula_terms}
use Rattle.sp_formulas.specs.Assertions.{instances}
use Rattle.sp_formulas.specs.Formulas.{Formula}
use Rattle.sp_formulas.specs.declared.fault.FormulaFault.{FormulaFault}
use Rattle.sp_formulas.specs.declared.fault.FormulaFault.TheVariants as fault

-- the limits of one formula, in order
abbrev pub terms_fault : ℕ → Formula → Option FormulaFault
terms_fault n o = if nat_lt MOST_TERMS (length (formula_terms o.hypotheses o.goal)) then Some (fault.TooManyTerms n) else None

abbrev pub nodes_fault : ℕ → Formula → Option FormulaFault
nodes_fault n o = if nat_lt MOST_FORMULA_NODES (formula_nodes o.hypotheses o.goal) then Some (fault.TooManyNodes n) else terms_fault n o

abbrev pub instances_fault : Parts → ℕ → Formula → Option FormulaFault
instances_fault p n o = if nat_lt MOST_ASSERTION_INSTANCES (length (instances p.assertions (types_of o.vars))) then Some (fault.TooManyInstances n) else nodes_fault n o

-- the limit that formula number n exceeds, counted from 1
abbrev pub fault_of : Parts → ℕ → Formula → Option FormulaFault
fault_of p n o = if nat_lt MOST_FORMULAS n then Some fault.TooManyFormulas else instances_fault p n o

abbrev pub or_else : Option FormulaFault → Option FormulaFault → Option FormulaFault
or_else None b = b
or_else (Some e) b = Some e

-- the first one along a list whose first formula has number n
abbrev pub first_fault : Parts → ℕ → List Formula → Option FormulaFault
first_fault p n [] = None
first_fault p n (o ∷ os) = or_else (fault_of p n o) (first_fault p (n + 1) os)
