-- The first pass, and those that come after it where it finds nothing.
use Rattle.std.proofs.Common.{◌≡◌, ◌≢◌, refl, ap, ℕ, sym, ◌∙◌, subst, List, [], ◌∷◌}
use Rattle.std.specs.Prelude.{Option, Some, None, is_some, IsTrue, Result, Err}
use Rattle.sp_text.specs.declared.fault.SpecFault.{SpecFault}
use Rattle.sp_text.specs.declared.fault.TextFault.{TextFault}
use Rattle.sp_text.specs.declared.fault.TextFault.TheVariants as fault
use Rattle.sp_text.specs.declared.violation.FileViolation.{FileViolation}
use Rattle.sp_text.specs.declared.violation.Violation.{Violation}
use Rattle.sp_text.specs.Firsts.{behind}
use Rattle.sp_text.specs.Violations.{JudgesFiles, NamesInFile, first_in_files, sooner_in_files}
use Rattle.sp_text.proofs.Firsts.{first_by_none}
use Rattle.sp_tree.specs.declared.interface.InterfaceTree.{InterfaceTree}
use Rattle.sp_tree.specs.declared.module.Module.{Module}
use Rattle.sp_scopes.specs.declared.scopes.Scopes.{Scopes}
use Rattle.sp_scopes.specs.Scopes.{scopes_of}
use Rattle.sp_order.specs.Orders.{AreEnds}
use Rattle.sp_specification.specs.Bodies.{bodies_broken}
use Rattle.sp_specification.specs.Ends.{ends_broken}
use Rattle.sp_specification.specs.Broken.{AreBroken, Headers, Rest, rest_broken}
use Rattle.sp_specification.specs.Orders.{IsOrderJudged, headers_broken}

module _ {A : Type 0} (P : A → Type 0) where
  -- a refusal of names, headers or the order is one of all that is broken
  pub refused : (i : InterfaceTree) (ms : List Module) (f : SpecFault) →
      ((o : List Violation) → IsOrderJudged i o → JudgesFiles (headers_broken i ms o) P (Err f)) →
      (vs : List FileViolation) → AreBroken i ms vs → JudgesFiles vs P (Err f)
  refused i ms f h _ (Headers o v vs j e) = subst (λ xs. NamesInFile xs f.file f.fault) e (h o j)
  refused i ms f h _ (Rest bottom top j e ends) = by f.fault (subst (λ xs. NamesInFile xs f.file f.fault) e (h [] j))
    where
      by : (t : TextFault) → NamesInFile [] f.file t → NamesInFile (rest_broken i ms bottom top) f.file t
      by (fault.Malformed m) n = absurd (cc n)
      by (fault.Limit l) n = absurd (cc n)
      by fault.Memory n = n

  -- where the first pass finds nothing, what the later ones find is all
  pub later : (i : InterfaceTree) (ms : List Module) (r : Result A SpecFault) →
      ((o : List Violation) → IsOrderJudged i o → headers_broken i ms o ≡ []) →
      ((bottom top : ℕ) → AreEnds (scopes_of i ms) bottom top → JudgesFiles (rest_broken i ms bottom top) P r) →
      (vs : List FileViolation) → AreBroken i ms vs → JudgesFiles vs P r
  later i ms r h k _ (Headers o v vs j e) = absurd (cc (sym e ∙ h o j))
  later i ms r h k _ (Rest bottom top j e ends) = k bottom top ends

-- what a pass finds first is the first of all
pub first_pass : (o : Option FileViolation) (xs ys : List FileViolation) → o ≡ first_in_files xs → IsTrue (is_some o) → o ≡ first_in_files (behind xs ys)
first_pass None [] ys e h = absurd (cc h)
first_pass (Some v) [] ys e h = absurd (cc e)
first_pass o (x ∷ xs) ys e h = e

-- what the later passes find, where s tells of the names and the ends of the lattice are told as numbers
pub rest_is : (i : InterfaceTree) (ms : List Module) (s : Scopes) (b t bottom top : ℕ) → s ≡ scopes_of i ms → b ≡ bottom → t ≡ top →
    behind (bodies_broken s b t ms) (ends_broken s b t i ms) ≡ rest_broken i ms bottom top
rest_is i ms s b t bottom top es eb et = λ j. behind (bodies_broken (es j) (eb j) (et j) ms) (ends_broken (es j) (eb j) (et j) i ms)

pub nothing_left : (i : InterfaceTree) (ms : List Module) (s : Scopes) (b t bottom top : ℕ) → s ≡ scopes_of i ms → b ≡ bottom → t ≡ top →
    None ≡ first_in_files (behind (bodies_broken s b t ms) (ends_broken s b t i ms)) → rest_broken i ms bottom top ≡ []
nothing_left i ms s b t bottom top es eb et h =
    sym (rest_is i ms s b t bottom top es eb et) ∙ first_by_none sooner_in_files (behind (bodies_broken s b t ms) (ends_broken s b t i ms)) (sym h)

-- what a fault of names, headers or the order names is one of all that is broken
pub headers_found : (i : InterfaceTree) (ms : List Module) (o : List Violation) (f : SpecFault) → IsOrderJudged i o → f.fault ≢ fault.Memory →
    NamesInFile (headers_broken i ms o) f.file f.fault → (vs : List FileViolation) × AreBroken i ms vs
headers_found i ms o f j lost n = by (headers_broken i ms o) refl n
  where
    none : (t : TextFault) → t ≢ fault.Memory → NamesInFile [] f.file t → ⊥
    none (fault.Malformed m) l e = cc e
    none (fault.Limit m) l e = cc e
    none fault.Memory l e = l refl

    by : (xs : List FileViolation) → headers_broken i ms o ≡ xs → NamesInFile xs f.file f.fault → (vs : List FileViolation) × AreBroken i ms vs
    by [] e m = absurd (none f.fault lost m)
    by (v ∷ vs) e m = (v ∷ vs, Headers o v vs j e)

-- a fault is the same, whatever else might have been answered
pub same_fault : {A B : Type 0} (f g : SpecFault) → ◌≡◌ {A = Result A SpecFault} (Err f) (Err g) → ◌≡◌ {A = Result B SpecFault} (Err f) (Err g)
same_fault f g e = ap Err (by e)
  where
    by : {C : Type 0} → ◌≡◌ {A = Result C SpecFault} (Err f) (Err g) → f ≡ g
    by h = cc h
