-- The laws of typing, each proved at the function of its name.
use Rattle.std.specs.Prelude.{◌≡◌, List, [], ◌∷◌, ◌++◌, Option, Some, length, slice_get}
use Rattle.sp_values.specs.declared.value.Ty.{Ty}
use Rattle.sp_core.specs.declared.expr.Expr.{Expr}
use Rattle.sp_core.specs.Measures.{Anything, LooksAt, Nothing}
use Rattle.sp_core.specs.Tree.{tree}
use Rattle.sp_core.specs.Typing.{Signature, HasType}
use Rattle.sp_plain.specs.Text.{Text}
use Rattle.sp_scopes.specs.declared.heads.Head.{Head}
use Rattle.sp_scopes.specs.declared.heads.Local.{Local}
use Rattle.sp_scopes.specs.declared.heads.Sort.TheVariants as sort
use Rattle.sp_judge.specs.Visible.{Visible, definition_at}
use Rattle.sp_judge.specs.declared.scope.Site.{Site}
use Rattle.sp_judge.specs.declared.scope.Site.TheVariants as site
use Rattle.sp_judge.specs.Broken.{broken, typed_broken, whole_broken}
use Rattle.sp_judge.specs.Translation.{own, translation, IsElaborated}
use Rattle.sp_typed.specs.Fits.{types, AreTypes, IsAsked, IsScopeOf, IsKept, IsOld, Fits, AreNumbers, HoldNoNew, MayQuote}

-- what breaks no rule is translated to an expression of the type that is asked, or of its own
abbrev pub TypedLaw : Type 0
TypedLaw = (sg : Signature) (s : Visible) → IsScopeOf sg s → (i : Site) → IsKept i → (l : List Local) → AreTypes sg l → (q : Option Ty) → IsAsked sg q →
    (e : Text) → AreNumbers e → broken s i l q e ≡ [] → Fits sg (types l) q (own s l e) (translation s l e)

-- an expression that is elaborated has the type that is told
abbrev pub ElaboratedLaw : Type 0
ElaboratedLaw = (sg : Signature) (s : Visible) → IsScopeOf sg s → (l : List Local) → AreTypes sg l → (q : Option Ty) → IsAsked sg q →
    (e : Text) → AreNumbers e → (r : Expr × Ty) → typed_broken s l q e ≡ [] → IsElaborated s l q e r → HasType sg (types l) (tree r.0) r.1

-- it reads the new values alone that may be quoted where it stands
abbrev pub NewValuesLaw : Type 0
NewValuesLaw = (s : Visible) (i : Site) → HoldNoNew s → (l : List Local) (q : Option Ty) (e : Text) → broken s i l q e ≡ [] →
    LooksAt Anything (MayQuote s i) (translation s l e)

-- outside effects, and in the condition of an IF effect, it reads none
abbrev pub OldValuesLaw : Type 0
OldValuesLaw = (s : Visible) (i : Site) → IsOld i → HoldNoNew s → (l : List Local) (q : Option Ty) (e : Text) → broken s i l q e ≡ [] →
    LooksAt Anything Nothing (translation s l e)

-- a definition whose text breaks nothing may be called by those after it: with its expression, a scope stays that of the signature
abbrev pub DefinedLaw : Type 0
DefinedLaw = (sg : Signature) (s : Visible) → IsScopeOf sg s → HoldNoNew s → (h : Head) (t : Ty) (body : Text) (x : Expr) →
    definition_at s (length s.cores) ≡ Some h → h.sort ≡ sort.Plain t → AreNumbers body →
    whole_broken s site.Outside h.formals (Some t) body ≡ [] → tree x ≡ translation s h.formals body →
    IsScopeOf sg (record s { cores = s.cores ++ x ∷ [] }) × HoldNoNew (record s { cores = s.cores ++ x ∷ [] })
