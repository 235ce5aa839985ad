-- An expression that is elaborated has the type that is told.
use Rattle.std.proofs.Common.{◌≡◌, refl, sym, subst, List, [], Option, Some, None}
use Rattle.sp_text.specs.Firsts.{behind}
use Rattle.sp_values.specs.declared.value.Ty.{Ty}
use Rattle.sp_core.specs.declared.expr.Expr.{Expr}
use Rattle.sp_core.specs.Tree.{tree}
use Rattle.sp_core.specs.Typing.{Signature, HasType}
use Rattle.sp_plain.specs.Text.{Text, span}
use Rattle.sp_scopes.specs.declared.heads.Local.{Local}
use Rattle.sp_judge.specs.Visible.{Visible}
use Rattle.sp_judge.specs.declared.scope.Site.TheVariants as site
use Rattle.sp_judge.specs.Broken.{broken, lacks_type, limit_rules, typed_broken}
use Rattle.sp_judge.specs.Translation.{own, either_type, translation, IsElaborated}
use Rattle.sp_typed.specs.Fits.{types, AreTypes, IsAsked, IsScopeOf, Fits, AreNumbers}
use Rattle.sp_typed.proofs.Fitting.{behind_inner}
use Rattle.sp_typed.proofs.Typed.{typed}

module _ (sg : Signature) (s : Visible) (w : IsScopeOf sg s) (l : List Local) (a : AreTypes sg l) where
  by_type : (q o : Option Ty) (e : Text) (r : Expr × Ty) → Fits sg (types l) q o (translation s l e) → tree r.0 ≡ translation s l e → either_type q o ≡ Some r.1 →
      HasType sg (types l) (tree r.0) r.1
  by_type (Some t) o e r f h k = let same : t ≡ r.1 = cc in subst (HasType sg (types l) (tree r.0)) same (subst (λ x. HasType sg (types l) x t) (sym h) f)
  by_type None (Some t) e r f h k = let same : t ≡ r.1 = cc in subst (HasType sg (types l) (tree r.0)) same (subst (λ x. HasType sg (types l) x t) (sym h) f)
  by_type None None e r f h k = cc

  pub elaborated : (q : Option Ty) → IsAsked sg q → (e : Text) → AreNumbers e → (r : Expr × Ty) → typed_broken s l q e ≡ [] → IsElaborated s l q e r →
      HasType sg (types l) (tree r.0) r.1
  elaborated q g e n r b h =
      let rest = behind (lacks_type (span e) (either_type q (own s l e))) (limit_rules (span e) (translation s l e)) in
      by_type q (own s l e) e r (typed sg s w site.Outside tt l a q g e n (behind_inner (broken s site.Outside l q e) rest b)) h.0 h.1
