-- In which order the functions are that new values make, read from the text of effects: a function that a change reads
-- new is before the one that it changes. For the rule that this order has no cycle.
use Rattle.std.specs.Prelude.{◌≡◌, ℕ, zero, suc, Bool, ◌==◌, ◌||◌, ◌&&◌, List, [], ◌∷◌, ◌++◌, map, if◌then◌else◌}
use Rattle.std.specs.List.{Contains, list_any}
use Rattle.sp_text.specs.declared.fault.Rule.TheVariants as rule
use Rattle.sp_text.specs.declared.violation.Violation.{Violation}
use Rattle.sp_text.specs.Violations.{breaks}
use Rattle.sp_cycles.specs.declared.order.Quoted.{Quoted}

-- function h is before function g: a change of g has a quoted reference of h
pub record IsBeforeBy (qs : List Quoted) (h g : ℕ) (q : Quoted) : Type 0 where
  pub of : Contains qs q
  pub reads : q.read ≡ h
  pub changes : q.changed ≡ g

abbrev pub IsBefore : List Quoted → ℕ → ℕ → Type 0
IsBefore qs h g = (q : Quoted) × IsBeforeBy qs h g q

-- a chain of n steps of this order leads from function h to function g
abbrev pub Leads : List Quoted → ℕ → ℕ → ℕ → Type 0
Leads qs zero h g = h ≡ g
Leads qs (suc n) h g = (k : ℕ) × Leads qs n h k × IsBefore qs k g

-- some chain leads from function h to function g, which may be h itself
abbrev pub IsLed : List Quoted → ℕ → ℕ → Type 0
IsLed qs h g = (n : ℕ) × Leads qs n h g

-- whether function h is before function g
abbrev pub is_before : List Quoted → ℕ → ℕ → Bool
is_before qs h g = list_any (λ q. (q.read == h) && (q.changed == g)) qs

-- whether a chain of one step and more leads from function h to function g with no functions between but these
abbrev pub leads_by : List Quoted → List ℕ → ℕ → ℕ → Bool
leads_by qs [] h g = is_before qs h g
leads_by qs (k ∷ ks) h g = leads_by qs ks h g || (leads_by qs ks h k && leads_by qs ks k g)

-- Whether some chain leads from function h to function g. All functions between are changed. That this is so exactly
-- where there is a chain is proved, and says all there is to know of it.
abbrev pub is_led : List Quoted → ℕ → ℕ → Bool
is_led qs h g = (h == g) || leads_by qs (map (λ q. q.changed) qs) h g

-- A quoted reference of h in a change of g closes a cycle where h is g, or where a chain leads from g to h.
abbrev pub cycle_rules : List Quoted → List Quoted → List Violation
cycle_rules all [] = []
cycle_rules all (q ∷ qs) = (if is_led all q.changed q.read then breaks q.place rule.NewValueCycle else []) ++ cycle_rules all qs
