-- What a mapping sees of the lower specification is that of its signature.
use Rattle.std.proofs.Common.{◌≡◌, refl, sym, ◌∙◌, ap, subst, arith, ℕ, ◌≤◌, ◌<◌, List, [], ◌∷◌, length}
use Rattle.std.specs.List.{All}
use Rattle.sp_text.specs.declared.limits.TheConstants.{MOST_LEVELS}
use Rattle.sp_text.specs.declared.violation.FileViolation.{FileViolation}
use Rattle.sp_text.specs.Violations.{in_file}
use Rattle.sp_tree.specs.declared.interface.InterfaceTree.{InterfaceTree}
use Rattle.sp_tree.specs.declared.module.Module.{Module}
use Rattle.sp_lattice.specs.Order.{IsLatticeOrder, IsOrderOf, bottom_level, top_level}
use Rattle.sp_core.specs.Parts.{Parts, signature}
use Rattle.sp_core.specs.WellFormed.{IsWellFormed}
use Rattle.sp_naming.specs.Numbers.{counted}
use Rattle.sp_scopes.specs.declared.lent.LevelOrder.{LevelOrder}
use Rattle.sp_scopes.specs.declared.scopes.Scopes.{Scopes}
use Rattle.sp_scopes.specs.Interfaces.{scopes_broken}
use Rattle.sp_scopes.specs.Laws.{FoundAreLent, LentAreFound}
use Rattle.sp_scopes.specs.Scopes.{scopes_of}
use Rattle.sp_order.specs.Orders.{AreEnds, ArePairsOf, HasLevels, IsLower, KeepsLattice, count_of, level_count}
use Rattle.sp_order.proofs.Ends.{ends, one_bottom, one_top}
use Rattle.sp_elaborate.specs.Views.{view}
use Rattle.sp_functions.specs.Laws.{IsSeenBy}
use Rattle.sp_specification.specs.Broken.{AreBroken, Headers, Rest, rest_broken}
use Rattle.sp_specification.specs.Meaning.{IsSpecOf}
use Rattle.sp_specification.specs.Numbers.{IsDefinitionNumbered}
use Rattle.sp_specification.specs.Orders.{IsOrderJudged, alone, headers_broken}
use Rattle.sp_ordered.proofs.Broken.{keeps}
use Rattle.sp_ordered.proofs.Counts.{has_levels}
use Rattle.sp_ordered.proofs.Levels.{alone_fine, left_nothing, one_naming, one_order}
use Rattle.sp_well_formed.specs.Laws.{SeenLaw}
use Rattle.sp_mapping_rules.specs.Lower.{AreNamesOf, lower_view}

abbrev Named : Type 0
Named = List (List ℕ) × LevelOrder

abbrev named : Scopes → Named
named s = (s.levels, s.order)

one : (i : InterfaceTree) (ms : List Module) → named (scopes_of (alone i) []) ≡ named (scopes_of i ms)
one i ms = λ k. (one_naming i ms k, one_order i ms k)

-- the levels, where some are there
has : (i : InterfaceTree) (ms : List Module) → FoundAreLent → LentAreFound → scopes_broken i ms ≡ [] → 1 ≤ level_count (scopes_of i ms) → HasLevels (scopes_of i ms)
has i ms found lent none some =
    let own = has_levels i found lent (alone_fine i ms none) (subst (λ (p : Named). 1 ≤ count_of (length p.0) p.1) (sym (one i ms)) some) in
    record {
      some = some;
      few = subst (λ (p : Named). count_of (length p.0) p.1 ≤ MOST_LEVELS) (one i ms) own.few;
      pairs = subst (λ (p : Named). ArePairsOf (count_of (length p.0) p.1) p.1) (one i ms) own.pairs;
    }

-- what is known of trees that break nothing
record IsFine (i : InterfaceTree) (ms : List Module) : Type 0 where
  bottom : ℕ
  top : ℕ
  judged : IsOrderJudged i []
  headers : headers_broken i ms [] ≡ []
  ends : AreEnds (scopes_of i ms) bottom top
  rest : rest_broken i ms bottom top ≡ []

fine : (i : InterfaceTree) (ms : List Module) (vs : List FileViolation) → vs ≡ [] → AreBroken i ms vs → IsFine i ms
fine i ms vs e b = by b e
  where
    by : {vs : List FileViolation} → AreBroken i ms vs → vs ≡ [] → IsFine i ms
    by (Headers o v vs j h) e = absurd cc
    by (Rest bottom top j h ends) e = record { bottom = bottom; top = top; judged = j; headers = h; ends = ends; rest = e }

module _ (found : FoundAreLent) (lent : LentAreFound) (law : SeenLaw) where
  seen_of : (p : Parts) (i : InterfaceTree) (ms : List Module) → IsLatticeOrder p.lattice → IsSpecOf i ms p → IsFine i ms → All IsDefinitionNumbered (scopes_of i ms).definitions →
      IsSeenBy (signature p) (lower_view p (scopes_of i ms))
  seen_of p i ms lattice is f numbers =
      let s = scopes_of i ms in
      let none : scopes_broken i ms ≡ [] = left_nothing (scopes_broken i ms) (in_file 0 []) f.headers in
      let keep : KeepsLattice s = keeps i ms f.judged f.headers in
      let some : 1 ≤ level_count s = omega (arith, f.ends.bottom_is_level) in
      let own : AreEnds s (bottom_level p.lattice) (top_level p.lattice) = ends s p.lattice is.meant.lattice lattice in
      let low = one_bottom s f.bottom f.top is.bottom is.top keep f.ends is.ends in
      let high = one_top s f.bottom f.top is.bottom is.top keep f.ends is.ends in
      let rest : rest_broken i ms is.bottom is.top ≡ [] = sym (λ j. rest_broken i ms (low j) (high j)) ∙ f.rest in
      let k = counted 0 (length s.takes) in
      let seen = law i ms is.bottom is.top p none (has i ms found lent none some) is.ends numbers rest is.meant k in
      let b = one_bottom s is.bottom is.top (bottom_level p.lattice) (top_level p.lattice) keep is.ends own in
      let t = one_top s is.bottom is.top (bottom_level p.lattice) (top_level p.lattice) keep is.ends own in
      subst (λ z. IsSeenBy (signature p) (view s k (bottom_level p.lattice) z)) t (subst (λ z. IsSeenBy (signature p) (view s k z is.top)) b seen)

  pub seen : (p : Parts) (s : Scopes) → IsWellFormed p → AreNamesOf p s → All IsDefinitionNumbered s.definitions → IsSeenBy (signature p) (lower_view p s)
  seen p s w names numbers =
      subst (λ z. IsSeenBy (signature p) (lower_view p z)) (sym names.names)
      (seen_of p names.tree names.modules w.lattice names.spec (fine names.tree names.modules [] refl names.nothing) (subst (λ z. All IsDefinitionNumbered z.definitions) names.names numbers))
