-- What an answer is by the first of what is broken.
use Rattle.std.proofs.Common.{◌≡◌, sym, ap, subst, List, [], ◌∷◌, Some, None}
use Rattle.sp_text.specs.declared.fault.Span.{Span}
use Rattle.sp_text.specs.declared.fault.TextFault.{TextFault}
use Rattle.sp_text.specs.declared.violation.Requirement.{Requirement}
use Rattle.sp_text.specs.declared.violation.Requirement.TheVariants as requirement
use Rattle.sp_text.specs.declared.violation.Violation.{Violation}
use Rattle.sp_text.specs.Firsts.{behind}
use Rattle.sp_text.specs.Violations.{Names, fault_of, first, sooner}
use Rattle.sp_text.proofs.Firsts.{first_by_none}

named_by : (vs : List Violation) (s : Span) (b : Requirement) → first vs ≡ Some (record { span = s; broken = b }) → Names vs (fault_of (record { span = s; broken = b }))
named_by vs s (requirement.Rule r) h = h
named_by vs s (requirement.Limit q) h = h

-- a refusal names it
pub refused : (vs : List Violation) (v : Violation) (f : TextFault) → first vs ≡ Some v → f ≡ fault_of v → Names vs f
refused vs v f h e = subst (Names vs) (sym e) (named_by vs v.span v.broken h)

-- where there is none, nothing is broken
pub nothing : (vs : List Violation) → first vs ≡ None → vs ≡ []
nothing vs h = first_by_none sooner vs h

-- what stands behind a list that is empty, and behind one that isn't
pub first_inner : (xs ys : List Violation) (v : Violation) → first xs ≡ Some v → first (behind xs ys) ≡ Some v
first_inner [] ys v h = absurd cc
first_inner (x ∷ xs) ys v h = h

pub behind_nothing : (xs ys : List Violation) → xs ≡ [] → behind xs ys ≡ ys
behind_nothing xs ys h = ap (λ zs. behind zs ys) h
