-- A mapping whose list of formulas exceeds no limit has at most 4,096 of them.
use Rattle.std.proofs.Common.{◌≡◌, ℕ, ◌+◌, ◌≤◌, Bool, true, false, nat_lt, if◌then◌else◌, List, [], ◌∷◌, Option, None, Some, ap, arith, length, refl}
use Rattle.std.proofs.lemmas.Bool.Decides.{nat_tests}
use Rattle.std.proofs.lemmas.List.{length-map}
use Rattle.sp_text.specs.declared.limits.TheConstants.{MOST_FORMULAS}
use Rattle.sp_core.specs.declared.mapping.Mapping.{Mapping}
use Rattle.sp_core.specs.Parts.{Parts}
use Rattle.sp_sequent.specs.declared.formula.Formula.{Formula as Made}
use Rattle.sp_formulas.specs.Formulas.{Formula, formula_as}
use Rattle.sp_formulas.specs.Limits.{fault_of, first_fault, instances_fault, or_else}
use Rattle.sp_formulas.specs.declared.fault.FormulaFault.{FormulaFault}
use Rattle.sp_formulas.specs.declared.fault.FormulaFault.TheVariants as fault
use Rattle.sp_map_formulas.specs.Listed.{IsMapListed}
use Rattle.sp_map_formulas.specs.Rows.{map_formulas}

neither : (a b : Option FormulaFault) → or_else a b ≡ None → (a ≡ None) × (b ≡ None)
neither None b e = (refl, e)
neither (Some f) b e = absurd cc

not_over : (b : Bool) (o : Option FormulaFault) → (if b then Some fault.TooManyFormulas else o) ≡ None → b ≡ false
not_over true o e = absurd cc
not_over false o e = refl

few_from : (p : Parts) (n : ℕ) (os : List Formula) → n ≤ MOST_FORMULAS + 1 → first_fault p n os ≡ None → n + length os ≤ MOST_FORMULAS + 1
few_from p n [] h e = omega (arith, h)
few_from p n (o ∷ os) h e =
    let both = neither (fault_of p n o) (first_fault p (n + 1) os) e in
    let test : nat_lt MOST_FORMULAS n ≡ false = not_over (nat_lt MOST_FORMULAS n) (instances_fault p n o) both.0 in
    let within : n ≤ MOST_FORMULAS = grind (arith, nat_tests) in
    let rest = few_from p (n + 1) os (omega (arith, within)) both.1 in
    omega (arith, rest)

pub few_mapped : (p : Parts) (m : Mapping) (fs : List Made) → IsMapListed p m fs → length fs ≤ MOST_FORMULAS
few_mapped p m fs l =
    let few = few_from p 1 (map_formulas p m) (omega arith) l.within in
    let same = ap length l.all in
    let count = length-map fs formula_as in
    omega (arith, few, same, count)
