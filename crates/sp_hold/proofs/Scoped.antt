-- Well-typed expressions are scoped, and level terms hold no quantifier.
use Rattle.std.proofs.Common.{◌≡◌, subst, arith, suc, List, [], ◌∷◌, ◌++◌, length, length-append}
use Rattle.std.proofs.lemmas.Option.{slice_get_within}
use Rattle.sp_values.specs.declared.value.Ty.{Ty}
use Rattle.sp_values.specs.declared.value.Ty.TheVariants as ty
use Rattle.sp_core.specs.Measures.{quantifiers, quantifiers_in}
use Rattle.sp_core.specs.Tree.{Tree, Trees, Const, Var, Not, Two, If, Param, Look, Every, New, none, more}
use Rattle.sp_core.specs.Typing.{HasType, HaveTypes, Signature}
use Rattle.sp_hold.proofs.Scopes.{ArePlain, AreScoped, IsPlain, IsScoped}

mutual
  pub scoped : (sg : Signature) (xs : List Ty) (e : Tree) (t : Ty) → HasType sg xs e t → IsScoped (length xs) e
  scoped sg xs (Const v) t h = tt
  scoped sg xs (Var k) t h = slice_get_within xs k t h
  scoped sg xs (Not a) t h = scoped sg xs a ty.Boolean h.1
  scoped sg xs (Two o a b) t h = (scoped sg xs a h.0 h.2, scoped sg xs b h.0 h.3)
  scoped sg xs (If c a b) t h = (scoped sg xs c ty.Boolean h.0, scoped sg xs a t h.1, scoped sg xs b t h.2)
  scoped sg xs (Param p ds) t h = all_scoped sg xs ds _ h.3
  scoped sg xs (Look g ds) t h = all_scoped sg xs ds _ h.3
  scoped sg xs (Every k u b) t h =
      let one : length (xs ++ u ∷ []) ≡ suc (length xs) = omega (arith, length-append xs (u ∷ [])) in
      (h.1, subst (λ n. IsScoped n b) one (scoped sg (xs ++ u ∷ []) b ty.Boolean h.3))
  scoped sg xs (New g ds) t h = all_scoped sg xs ds _ h.3

  pub all_scoped : (sg : Signature) (xs : List Ty) (ds : Trees) (ts : List Ty) → HaveTypes sg xs ds ts → AreScoped (length xs) ds
  all_scoped sg xs none [] h = tt
  all_scoped sg xs none (t ∷ ts) h = absurd h
  all_scoped sg xs (more d ds) [] h = absurd h
  all_scoped sg xs (more d ds) (t ∷ ts) h = (scoped sg xs d t h.0, all_scoped sg xs ds ts h.1)

mutual
  pub no_quantifier : (e : Tree) → quantifiers e ≡ 0 → IsPlain e
  no_quantifier (Const v) h = tt
  no_quantifier (Var k) h = tt
  no_quantifier (Not a) h = no_quantifier a h
  no_quantifier (Two o a b) h = (no_quantifier a (omega (arith, h)), no_quantifier b (omega (arith, h)))
  no_quantifier (If c a b) h = (no_quantifier c (omega (arith, h)), no_quantifier a (omega (arith, h)), no_quantifier b (omega (arith, h)))
  no_quantifier (Param p ds) h = no_quantifiers ds h
  no_quantifier (Look g ds) h = no_quantifiers ds h
  no_quantifier (Every k t b) h = absurd (omega (arith, h))
  no_quantifier (New g ds) h = no_quantifiers ds h

  no_quantifiers : (ds : Trees) → quantifiers_in ds ≡ 0 → ArePlain ds
  no_quantifiers none h = tt
  no_quantifiers (more d ds) h = (no_quantifier d (omega (arith, h)), no_quantifiers ds (omega (arith, h)))
