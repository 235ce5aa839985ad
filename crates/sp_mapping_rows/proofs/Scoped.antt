-- Levels keep to their variables: those of a specification, and their translations.
use Rattle.std.proofs.Common.{◌≡◌, refl, ◌∙◌, sym, ap, subst, arith, rules, ℕ, zero, suc, ◌+◌, ◌<◌, ◌≤◌, List, [], ◌∷◌, ◌++◌, Option, Some, None, length, map, get_or, length-append}
use Rattle.std.specs.Prelude.{slice_get, IfSome}
use Rattle.std.proofs.lemmas.Option.{slice_get_within}
use Rattle.sp_values.specs.declared.value.Ty.{Ty}
use Rattle.sp_values.specs.declared.value.Ty.TheVariants as ty
use Rattle.sp_core.specs.declared.expr.Expr.{Expr}
use Rattle.sp_core.specs.declared.function.Formal.{Formal}
use Rattle.sp_core.specs.declared.function.Function.{Function}
use Rattle.sp_core.specs.Machine.{types_of}
use Rattle.sp_core.specs.Parts.{Parts}
use Rattle.sp_core.specs.Tree.{Tree, Trees, Const, Var, Not, Two, If, Param, Look, Every, New, none, more, tree}
use Rattle.sp_core.specs.Typing.{HasType, HaveTypes, Signature}
use Rattle.sp_core.specs.WellFormed.{IsWellFormed}
use Rattle.sp_expand.specs.Expansion.{AreScoped, IsScoped}
use Rattle.sp_expand.proofs.Scoped.{scoped_put}
use Rattle.sp_judge.specs.Translation.{expanded}
use Rattle.sp_mapping_rules.specs.Levels.{level_over, levels_over}
use Rattle.sp_mapping_rules.specs.Types.{at_place}
use Rattle.sp_mapping_rows.specs.Levelled.{IsLevelled}

mutual
  scoped : (sg : Signature) (xs : List Ty) (e : Tree) (t : Ty) → HasType sg xs e t → IsScoped (length xs) e
  scoped sg xs (Const v) t h = tt
  scoped sg xs (Var k) t h = slice_get_within xs k t h
  scoped sg xs (Not a) t h = scoped sg xs a ty.Boolean h.1
  scoped sg xs (Two o a b) t h = (scoped sg xs a h.0 h.2, scoped sg xs b h.0 h.3)
  scoped sg xs (If c a b) t h = (scoped sg xs c ty.Boolean h.0, scoped sg xs a t h.1, scoped sg xs b t h.2)
  scoped sg xs (Param p ds) t h = scoped_all sg xs ds (types_of h.0.formals) h.3
  scoped sg xs (Look g ds) t h = scoped_all sg xs ds (types_of h.0.formals) h.3
  scoped sg xs (Every k u b) t h =
      let n : length (xs ++ u ∷ []) ≡ suc (length xs) = omega (arith, length-append xs (u ∷ [])) in
      (h.1, subst (λ n. IsScoped n b) n (scoped sg (xs ++ u ∷ []) b ty.Boolean h.3))
  scoped sg xs (New g ds) t h = scoped_all sg xs ds (types_of h.0.formals) h.3

  scoped_all : (sg : Signature) (xs : List Ty) (ds : Trees) (ts : List Ty) → HaveTypes sg xs ds ts → AreScoped (length xs) ds
  scoped_all sg xs none ts h = tt
  scoped_all sg xs (more d ds) [] h = absurd h
  scoped_all sg xs (more d ds) (t ∷ ts) h = (scoped sg xs d t h.0, scoped_all sg xs ds ts h.1)

expanded_scoped : (n : ℕ) (ds : Trees) (o : Option Expr) → AreScoped n ds → IsScoped n (expanded n ds o)
expanded_scoped n ds None h = tt
expanded_scoped n ds (Some e) h = scoped_put (tree e) n ds h

module _ (ts : List ℕ) (ps : List Expr) where
  mutual
    pub level_scoped : (n : ℕ) (e : Tree) → IsScoped n e → IsScoped n (level_over ts ps n e)
    level_scoped n (Const v) h = tt
    level_scoped n (Var k) h = h
    level_scoped n (Not a) h = level_scoped n a h
    level_scoped n (Two o a b) h = (level_scoped n a h.0, level_scoped n b h.1)
    level_scoped n (If c a b) h = (level_scoped n c h.0, level_scoped n a h.1, level_scoped n b h.2)
    level_scoped n (Param q ds) h = expanded_scoped n (levels_over ts ps n ds) (slice_get ps q) (levels_scoped n ds h)
    level_scoped n (Look g ds) h = tt
    level_scoped n (Every k t b) h = tt
    level_scoped n (New g ds) h = tt

    pub levels_scoped : (n : ℕ) (ds : Trees) → AreScoped n ds → AreScoped n (levels_over ts ps n ds)
    levels_scoped n none h = tt
    levels_scoped n (more d ds) h = (level_scoped n d h.0, levels_scoped n ds h.1)

types_length : (fs : List Formal) → length (types_of fs) ≡ length fs
types_length [] = refl
types_length (f ∷ fs) = ap suc (types_length fs)

-- the levels of a specification's functions can be translated
levelled : (u : Parts) → IsWellFormed u → (k : ℕ) (f : Function) → slice_get u.functions k ≡ Some f → IsLevelled f
levelled u w k f at =
    let is = w.functions k f at in
    record {
      few = is.formals.few;
      scoped = subst (λ n. IsScoped n (tree f.level)) (types_length f.formals) (scoped _ (types_of f.formals) (tree f.level) ty.Level is.level.expression.typed);
    }

at_levelled : (u : Parts) → IsWellFormed u → (k : Option ℕ) → IfSome (at_place u.functions k) IsLevelled
at_levelled u w None = tt
at_levelled u w (Some k) = by (slice_get u.functions k) refl
  where
    by : (o : Option Function) → slice_get u.functions k ≡ o → IfSome o IsLevelled
    by None e = tt
    by (Some f) e = levelled u w k f e

pub all_levelled : (u : Parts) (fs : List Function) (k : Option ℕ) (o : Option Function) → IsWellFormed u → fs ≡ u.functions → o ≡ at_place fs k → IfSome o IsLevelled
all_levelled u fs k o w same is = subst (λ o. IfSome o IsLevelled) (sym (is ∙ ap (λ fs. at_place fs k) same)) (at_levelled u w k)

-- there are few functions
pub few_functions : (u : Parts) (fs : List Function) → IsWellFormed u → fs ≡ u.functions → length fs ≤ 512
few_functions u fs w same = omega (arith, w.few_functions, ap length same)
