-- What of functions and assertions breaks nothing is well-formed. Each law is proved at the function of its name.
use Rattle.std.specs.Prelude.{◌≡◌, ◌≤◌, ℕ, List, [], length, map, IsTrue}
use Rattle.std.specs.List.{All}
use Rattle.sp_text.specs.declared.limits.TheConstants.{MOST_DERIVATION_DEPTH, MOST_EXCEPTIONS}
use Rattle.sp_values.specs.declared.value.Ty.{Ty}
use Rattle.sp_values.specs.declared.value.Ty.TheVariants as ty
use Rattle.sp_tree.specs.declared.names.Ident.{Ident}
use Rattle.sp_tree.specs.declared.expr.ExprTree.{ExprTree}
use Rattle.sp_core.specs.declared.expr.Expr.{Expr}
use Rattle.sp_core.specs.declared.function.Assertion.{Assertion}
use Rattle.sp_core.specs.Measures.{IsWithinDepth}
use Rattle.sp_core.specs.Tree.{tree}
use Rattle.sp_core.specs.Typing.{Signature, is_type}
use Rattle.sp_core.specs.WellFormed.{AreDifferent, IsAssertion, IsDerivation, IsExpression, IsInitial, IsLevel}
use Rattle.sp_plain.specs.Text.{Text, text}
use Rattle.sp_scopes.specs.declared.heads.Local.{Local}
use Rattle.sp_judge.specs.Visible.{Visible}
use Rattle.sp_typed.specs.Fits.{types, AreNumbers, AreTypes, HoldNoNew, IsScopeOf}
use Rattle.sp_functions.specs.Assertions.{IsAssertionOf, assertion_broken}
use Rattle.sp_functions.specs.Exceptions.{AreExceptionsOf, exceptions_broken}
use Rattle.sp_functions.specs.Judged.{derivation_broken, initial_broken, level_broken, made}

-- what is visible is that of the signature, which has the same functions; no definition reads a new value
pub record IsSeenBy (sg : Signature) (s : Visible) : Type 0 where
  pub scope : IsScopeOf sg s
  pub fresh : HoldNoNew s
  pub functions : length sg.functions ≡ length s.names.functions

-- an INITIALLY that breaks nothing
abbrev pub InitialLaw : Type 0
InitialLaw = (sg : Signature) (s : Visible) → IsSeenBy sg s → (l : List Local) → AreTypes sg l → (t : Ty) → IsTrue (is_type sg t) →
    (e : Text) → AreNumbers e → initial_broken s l t e ≡ [] → (x : Expr) → tree x ≡ made s l e → IsInitial sg (types l) t x

-- a derivation that breaks nothing and is within the depth
abbrev pub DerivationLaw : Type 0
DerivationLaw = (sg : Signature) (s : Visible) → IsSeenBy sg s → (g : ℕ) (l : List Local) → AreTypes sg l → (t : Ty) → IsTrue (is_type sg t) →
    (e : Text) → AreNumbers e → derivation_broken s g l t e ≡ [] → IsWithinDepth sg.functions MOST_DERIVATION_DEPTH g →
    (x : Expr) → tree x ≡ made s l e → IsDerivation sg (types l) g t x

-- a level that breaks nothing
abbrev pub LevelLaw : Type 0
LevelLaw = (sg : Signature) (s : Visible) → IsSeenBy sg s → (l : List Local) → AreTypes sg l →
    (e : Text) → AreNumbers e → level_broken s l e ≡ [] → (x : Expr) → tree x ≡ made s l e → IsLevel sg (types l) (tree x)

-- the numbers of conditions are in range
abbrev pub HaveNumbers : List (Ident × ExprTree) → Type 0
HaveNumbers xs = All (λ x. AreNumbers (text x.1)) xs

-- exceptions that break nothing: at most sixteen, of different names, with conditions that are BOOLEAN
pub record AreExceptions (sg : Signature) (l : List Local) (es : List (List ℕ × Expr)) : Type 0 where
  pub few : length es ≤ MOST_EXCEPTIONS
  pub names : AreDifferent (map (λ e. e.0) es)
  pub conditions : All (λ e. IsExpression sg (types l) (tree e.1) ty.Boolean) es

abbrev pub ExceptionsLaw : Type 0
ExceptionsLaw = (sg : Signature) (s : Visible) → IsSeenBy sg s → (l : List Local) → AreTypes sg l → (xs : List (Ident × ExprTree)) → HaveNumbers xs →
    exceptions_broken s l xs ≡ [] → (es : List (List ℕ × Expr)) → AreExceptionsOf s l xs es → AreExceptions sg l es

-- an assertion that breaks nothing
abbrev pub AssertionLaw : Type 0
AssertionLaw = (sg : Signature) (s : Visible) → IsSeenBy sg s → (e : Text) → AreNumbers e → assertion_broken s e ≡ [] →
    (a : Assertion) → IsAssertionOf s e a → IsAssertion sg a
