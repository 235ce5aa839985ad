-- What an order breaks is one list.
use Rattle.std.proofs.Common.{◌≡◌, refl, sym, ap, List, []}
use Rattle.sp_text.specs.declared.fault.Rule.{Rule}
use Rattle.sp_text.specs.declared.fault.Span.{Span}
use Rattle.sp_text.specs.declared.violation.Violation.{Violation}
use Rattle.sp_text.specs.Violations.{breaks}
use Rattle.sp_tree.specs.declared.interface.InterfaceTree.{InterfaceTree}
use Rattle.sp_scopes.specs.declared.scopes.Scopes.{Scopes}
use Rattle.sp_scopes.specs.Interfaces.{scopes_broken}
use Rattle.sp_scopes.specs.Scopes.{scopes_of}
use Rattle.sp_order.specs.Orders.{Flawed, IsFlaw, IsLower, IsOrderBroken, KeepsLattice, Lattice, level_count}
use Rattle.sp_order.proofs.Ends.{no_flaw}
use Rattle.sp_specification.specs.Orders.{IsOrderJudged, Judged, Unjudged, alone, keyword}
use Rattle.sp_ordered.proofs.Flaws.{one_flaw}

-- Two orders

-- a lattice breaks nothing
none_broken : (s : Scopes) (p : Span) → KeepsLattice s → {vs : List Violation} → IsOrderBroken s p vs → vs ≡ []
none_broken s p k (Lattice l) = refl
none_broken s p k (Flawed r f) = absurd (no_flaw (level_count s) (IsLower s.order) k r f)

-- a flaw is what is broken
flaw_broken : (s : Scopes) (p : Span) (r : Rule) → IsFlaw (level_count s) (IsLower s.order) r → {vs : List Violation} → IsOrderBroken s p vs → vs ≡ breaks p r
flaw_broken s p r f (Lattice l) = absurd (no_flaw (level_count s) (IsLower s.order) l r f)
flaw_broken s p r f (Flawed q g) = ap (breaks p) (one_flaw (level_count s) (IsLower s.order) q r g f)

one_broken : (s : Scopes) (p : Span) {vs ws : List Violation} → IsOrderBroken s p vs → IsOrderBroken s p ws → ws ≡ vs
one_broken s p (Lattice k) b = none_broken s p k b
one_broken s p (Flawed r f) b = flaw_broken s p r f b

-- where the lattice by itself breaks something, the order isn't judged
pub unjudged : (i : InterfaceTree) → (scopes_broken (alone i) [] ≡ [] → ⊥) → (vs : List Violation) → IsOrderJudged i vs → vs ≡ []
unjudged i none vs j = by j
  where
    by : {vs : List Violation} → IsOrderJudged i vs → vs ≡ []
    by (Unjudged n) = refl
    by (Judged vs fine b) = absurd (none fine)

-- else it is judged
pub judged : (i : InterfaceTree) → scopes_broken (alone i) [] ≡ [] → (vs : List Violation) → IsOrderJudged i vs → IsOrderBroken (scopes_of (alone i) []) (keyword i.lattice) vs
judged i fine vs j = by j
  where
    by : {vs : List Violation} → IsOrderJudged i vs → IsOrderBroken (scopes_of (alone i) []) (keyword i.lattice) vs
    by (Unjudged n) = absurd (n fine)
    by (Judged vs fine b) = b

pub judged_lattice : (i : InterfaceTree) → scopes_broken (alone i) [] ≡ [] → KeepsLattice (scopes_of (alone i) []) → (vs : List Violation) → IsOrderJudged i vs → vs ≡ []
judged_lattice i fine k vs j = none_broken (scopes_of (alone i) []) (keyword i.lattice) k (judged i fine vs j)

pub judged_flaw : (i : InterfaceTree) → scopes_broken (alone i) [] ≡ [] → (r : Rule) → IsFlaw (level_count (scopes_of (alone i) [])) (IsLower (scopes_of (alone i) []).order) r →
    (vs : List Violation) → IsOrderJudged i vs → vs ≡ breaks (keyword i.lattice) r
judged_flaw i fine r f vs j = flaw_broken (scopes_of (alone i) []) (keyword i.lattice) r f (judged i fine vs j)

-- what the order breaks is one list
pub one_judged : (i : InterfaceTree) (vs ws : List Violation) → IsOrderJudged i vs → IsOrderJudged i ws → vs ≡ ws
one_judged i vs ws a b = by a b
  where
    by : {vs ws : List Violation} → IsOrderJudged i vs → IsOrderJudged i ws → vs ≡ ws
    by {ws = ws} (Unjudged n) b = sym (unjudged i n ws b)
    by {ws = ws} (Judged vs fine a) b = one_broken (scopes_of (alone i) []) (keyword i.lattice) (judged i fine ws b) a
