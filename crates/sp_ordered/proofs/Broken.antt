-- What an interface and its modules break is one list.
use Rattle.std.proofs.Common.{◌≡◌, refl, sym, ◌∙◌, ap, List, [], ◌∷◌}
use Rattle.sp_text.specs.declared.fault.Span.{Span}
use Rattle.sp_text.specs.declared.violation.FileViolation.{FileViolation}
use Rattle.sp_text.specs.declared.violation.Violation.{Violation}
use Rattle.sp_text.specs.Violations.{in_file}
use Rattle.sp_tree.specs.declared.interface.InterfaceTree.{InterfaceTree}
use Rattle.sp_tree.specs.declared.module.Module.{Module}
use Rattle.sp_scopes.specs.declared.scopes.Scopes.{Scopes}
use Rattle.sp_scopes.specs.Interfaces.{scopes_broken}
use Rattle.sp_scopes.specs.Scopes.{scopes_of}
use Rattle.sp_order.specs.Orders.{Flawed, IsOrderBroken, KeepsLattice, Lattice}
use Rattle.sp_order.proofs.Ends.{one_bottom, one_top}
use Rattle.sp_specification.specs.Broken.{AreBroken, Headers, Rest, rest_broken}
use Rattle.sp_specification.specs.Orders.{IsOrderJudged, alone, headers_broken, keyword}
use Rattle.sp_ordered.proofs.Judged.{judged, one_judged}
use Rattle.sp_ordered.proofs.Levels.{alone_fine, left_nothing}
use Rattle.sp_ordered.proofs.Told.{whole_kept}

-- an order that breaks nothing is a lattice
nothing_kept : (s : Scopes) (p : Span) {vs : List Violation} → IsOrderBroken s p vs → vs ≡ [] → KeepsLattice s
nothing_kept s p (Lattice k) e = k
nothing_kept s p (Flawed r f) e = absurd cc

-- where names, headers and the order break nothing, the order of all is a lattice
pub keeps : (i : InterfaceTree) (ms : List Module) → IsOrderJudged i [] → headers_broken i ms [] ≡ [] → KeepsLattice (scopes_of i ms)
keeps i ms j h =
    let fine = left_nothing (scopes_broken i ms) (in_file 0 []) h in
    whole_kept i ms (nothing_kept (scopes_of (alone i) []) (keyword i.lattice) (judged i (alone_fine i ms fine) [] j) refl)

same_headers : (i : InterfaceTree) (ms : List Module) (o p : List Violation) → IsOrderJudged i o → IsOrderJudged i p → headers_broken i ms o ≡ headers_broken i ms p
same_headers i ms o p a b = ap (headers_broken i ms) (one_judged i o p a b)

not_both : (i : InterfaceTree) (ms : List Module) (o : List Violation) (v : FileViolation) (vs : List FileViolation) → IsOrderJudged i o → headers_broken i ms o ≡ v ∷ vs →
    IsOrderJudged i [] → headers_broken i ms [] ≡ [] → ⊥
not_both i ms o v vs a e b f = let same = same_headers i ms o [] a b in none (sym e ∙ same ∙ f)
  where
    none : v ∷ vs ≡ [] → ⊥
    none e = absurd cc

pub one_list : (i : InterfaceTree) (ms : List Module) (vs ws : List FileViolation) → AreBroken i ms vs → AreBroken i ms ws → vs ≡ ws
one_list i ms vs ws a b = by a b
  where
    by : {vs ws : List FileViolation} → AreBroken i ms vs → AreBroken i ms ws → vs ≡ ws
    by (Headers o v vs a e) (Headers p w ws b f) = sym e ∙ same_headers i ms o p a b ∙ f
    by (Headers o v vs a e) (Rest bottom top b f ends) = absurd (not_both i ms o v vs a e b f)
    by (Rest bottom top a e ends) (Headers p w ws b f) = absurd (not_both i ms p w ws b f a e)
    by (Rest bottom top a e one) (Rest low high b f other) =
        let k = keeps i ms a e in
        (λ j. rest_broken i ms (one_bottom (scopes_of i ms) bottom top low high k one other j) (one_top (scopes_of i ms) bottom top low high k one other j))
