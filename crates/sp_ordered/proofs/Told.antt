-- What is told of the order of the levels, with all that the interface and its modules declare.
use Rattle.std.proofs.Common.{◌≡◌, sym, ◌∙◌, ap, subst, ◌≤◌, ℕ, List, [], ◌++◌, length, Some}
use Rattle.std.specs.Prelude.{Err, IfOk, Ok, Result}
use Rattle.std.proofs.lemmas.List.{append-nil}
use Rattle.sp_text.specs.declared.fault.Rule.{Rule}
use Rattle.sp_text.specs.declared.fault.Span.{Span}
use Rattle.sp_text.specs.declared.fault.TextFault.{TextFault}
use Rattle.sp_text.specs.declared.limits.TheConstants.{MOST_LEVELS}
use Rattle.sp_text.specs.declared.violation.FileViolation.{FileViolation}
use Rattle.sp_text.specs.declared.violation.Requirement.TheVariants as requirement
use Rattle.sp_text.specs.declared.violation.Violation.{Violation}
use Rattle.sp_text.specs.Violations.{NamesInFile, breaks, first_in_files, in_file}
use Rattle.sp_lattice.specs.Bounds.{IsLattice}
use Rattle.sp_lattice.specs.Order.{Order, IsOrderOf}
use Rattle.sp_tree.specs.declared.interface.InterfaceTree.{InterfaceTree}
use Rattle.sp_tree.specs.declared.module.Module.{Module}
use Rattle.sp_scopes.specs.declared.lent.LevelOrder.{LevelOrder}
use Rattle.sp_scopes.specs.declared.scopes.Scopes.{Scopes}
use Rattle.sp_scopes.specs.Interfaces.{scopes_broken}
use Rattle.sp_scopes.specs.Scopes.{scopes_of}
use Rattle.sp_order.specs.Orders.{ArePairsOf, Flawed, IsLower, KeepsLattice, Lattice, count_of}
use Rattle.sp_ordered.specs.declared.judging.Judgement.{Judgement}
use Rattle.sp_ordered.specs.declared.judging.Judgement.TheVariants as judgement
use Rattle.sp_ordered.specs.Judgements.{IsLatticeOf, IsTold, IsToldOf}
use Rattle.sp_specification.specs.Orders.{IsOrderJudged, Judged, Unjudged, alone, headers_broken, keyword}
use Rattle.sp_ordered.proofs.Judged.{judged_flaw, judged_lattice, unjudged}
use Rattle.sp_ordered.proofs.Levels.{alone_fine, one_naming, one_order}

-- names of levels with their declared order
abbrev Named : Type 0
Named = List (List ℕ) × LevelOrder

abbrev named : Scopes → Named
named s = (s.levels, s.order)

one : (i : InterfaceTree) (ms : List Module) → named (scopes_of (alone i) []) ≡ named (scopes_of i ms)
one i ms = λ k. (one_naming i ms k, one_order i ms k)

-- an order that is a lattice alone is one with all
pub whole_kept : (i : InterfaceTree) (ms : List Module) → KeepsLattice (scopes_of (alone i) []) → KeepsLattice (scopes_of i ms)
whole_kept i ms k = subst (λ (p : Named). IsLattice (count_of (length p.0) p.1) (IsLower p.1)) (one i ms) k

-- the lattice of the levels alone is that of all
pub whole : (i : InterfaceTree) (ms : List Module) (o : Order) → IsLatticeOf (scopes_of (alone i) []) o → IsLatticeOf (scopes_of i ms) o
whole i ms o t = record {
  levels = record {
    some = subst (λ (p : Named). 1 ≤ count_of (length p.0) p.1) (one i ms) t.levels.some;
    few = subst (λ (p : Named). count_of (length p.0) p.1 ≤ MOST_LEVELS) (one i ms) t.levels.few;
    pairs = subst (λ (p : Named). ArePairsOf (count_of (length p.0) p.1) p.1) (one i ms) t.levels.pairs;
  };
  order = subst (λ (p : Named). IsOrderOf (count_of (length p.0) p.1) (IsLower p.1) o) (one i ms) t.order;
  lattice = t.lattice;
  kept = whole_kept i ms t.kept;
}

pub told_whole : (i : InterfaceTree) (ms : List Module) (s : Scopes) (j : Judgement) (o : Order) → IsTold i j → j ≡ judgement.Kept o → s ≡ scopes_of i ms → IsLatticeOf s o
told_whole i ms s j o t is same = subst (λ s. IsLatticeOf s o) (sym same) (whole i ms o (subst (IsTold i) is t).1)

pub told_fine : (i : InterfaceTree) (j : Judgement) (o : Order) → IsTold i j → j ≡ judgement.Kept o → IsOrderJudged i []
told_fine i j o t is = let told = subst (IsTold i) is t in Judged [] told.0 (Lattice told.1.kept)

pub told_nothing : (i : InterfaceTree) (j : Judgement) (o : Order) → IsTold i j → j ≡ judgement.Kept o → (vs : List Violation) → IsOrderJudged i vs → vs ≡ []
told_nothing i j o t is vs b = let told = subst (IsTold i) is t in judged_lattice i told.0 told.1.kept vs b

pub told_flaw : (i : InterfaceTree) (j : Judgement) (r : Rule) (p : Span) → IsTold i j → j ≡ judgement.Flawed r → p ≡ keyword i.lattice → (vs : List Violation) → IsOrderJudged i vs → vs ≡ breaks p r
told_flaw i j r p t is at vs b = let told = subst (IsTold i) is t in judged_flaw i told.0 r told.1 vs b ∙ ap (λ p. breaks p r) (sym at)

pub told_unjudged : (i : InterfaceTree) (j : Judgement) → IsTold i j → j ≡ judgement.Unjudged → (vs : List Violation) → IsOrderJudged i vs → vs ≡ []
told_unjudged i j t is vs b = unjudged i (subst (IsTold i) is t) vs b

-- where names and headers break nothing, the order is judged
pub told_judged : (i : InterfaceTree) (ms : List Module) (j : Judgement) → IsTold i j → scopes_broken i ms ≡ [] → j ≡ judgement.Unjudged → ⊥
told_judged i ms j t h is = subst (IsTold i) is t (alone_fine i ms h)

-- where the order breaks nothing, a fault stays
pub same_fault : (vs : List FileViolation) (ws : List Violation) (f : ℕ) (g : TextFault) → ws ≡ [] → NamesInFile vs f g → NamesInFile (vs ++ in_file 0 ws) f g
same_fault vs ws f g none n = subst (λ xs. NamesInFile xs f g) (sym (append-nil vs) ∙ ap (λ ws. vs ++ in_file 0 ws) (sym none)) n

-- where the names break nothing, what the order breaks is all
pub headers_fine : (i : InterfaceTree) (ms : List Module) (vs : List Violation) → scopes_broken i ms ≡ [] → headers_broken i ms vs ≡ in_file 0 vs
headers_fine i ms vs h = ap (λ xs. xs ++ in_file 0 vs) h

pub first_flaw : (i : InterfaceTree) (ms : List Module) (vs : List Violation) (p : Span) (r : Rule) → scopes_broken i ms ≡ [] → vs ≡ breaks p r →
    first_in_files (headers_broken i ms vs) ≡ Some (record { file = 0; violation = record { span = p; broken = requirement.Rule r } })
first_flaw i ms vs p r h is = ap first_in_files (headers_fine i ms vs h ∙ ap (in_file 0) is)

-- what is told of the levels of the lattice alone
pub told_of : {E : Type 0} (i k : InterfaceTree) (s : Scopes) (r : Result Judgement E) → k ≡ alone i → scopes_broken k [] ≡ [] → s ≡ scopes_of k [] → IfOk r (IsToldOf s) → IfOk r (IsTold i)
told_of {E} i k s r own h is t = by r (subst (λ s. IfOk r (IsToldOf s)) (is ∙ ap (λ k. scopes_of k []) own) t)
  where
    fine : scopes_broken (alone i) [] ≡ []
    fine = subst (λ k. scopes_broken k [] ≡ []) own h

    by : (r : Result Judgement E) → IfOk r (IsToldOf (scopes_of (alone i) [])) → IfOk r (IsTold i)
    by (Ok (judgement.Kept o)) t = (fine, t)
    by (Ok (judgement.Flawed q)) t = (fine, t)
    by (Ok judgement.Unjudged) t = absurd t
    by (Err e) t = t

-- the order breaks some list, of which something is told
pub told_some : (i : InterfaceTree) (j : Judgement) → IsTold i j → (vs : List Violation) × IsOrderJudged i vs
told_some i (judgement.Kept o) t = ([], Judged [] t.0 (Lattice t.1.kept))
told_some i (judgement.Flawed r) t = (breaks (keyword i.lattice) r, Judged (breaks (keyword i.lattice) r) t.0 (Flawed r t.1))
told_some i judgement.Unjudged t = ([], Unjudged t)
