-- The new state doesn't bear on an expression that reads no new value.
use Rattle.std.proofs.Common.{sym, ◌∙◌, ap, subst, ℕ, List, [], ◌∷◌, ◌++◌, take}
use Rattle.sp_values.specs.declared.value.Value.{Value}
use Rattle.sp_core.specs.Measures.{Anything, LookAt, LooksAt, Nothing}
use Rattle.sp_core.specs.Tree.{Tree, Trees, Const, Var, Not, Two, If, Param, Look, Every, New, none, more}
use Rattle.sp_core.specs.Values.{Reads, World, is_true}
use Rattle.sp_core.specs.Reading.{DependOn, DependsOn, Matters}
use Rattle.sp_core.proofs.Agree.{value_no_new, values_no_new}

module _ (w : World) (r new other : Reads) where
  module _ (Sees : ℕ → List Value → Type 0) where
    mutual
      pub below_no_new : (e : Tree) (x : List Value) → LooksAt Anything Nothing e → DependsOn w r new Sees x e → DependsOn w r other Sees x e
      below_no_new (Const v) x ok h = tt
      below_no_new (Var k) x ok h = tt
      below_no_new (Not a) x ok h = below_no_new a x ok h
      below_no_new (Two o a b) x ok h = (below_no_new a x ok.0 h.0, λ l. below_no_new b x ok.1 (h.1 (subst (λ v. Matters o (is_true v)) (sym (value_no_new w r new other a x ok.0)) l)))
      below_no_new (If c a b) x ok h =
          let e = ap is_true (value_no_new w r new other c x ok.0) in
          (below_no_new c x ok.0 h.0, λ l. below_no_new a x ok.1 (h.1 (e ∙ l)), λ l. below_no_new b x ok.2 (h.2 (e ∙ l)))
      below_no_new (Param p ds) x ok h = belows_no_new ds x ok h
      below_no_new (Look g ds) x ok h = (belows_no_new ds x ok.1 h.0, subst (Sees g) (values_no_new w r new other ds x ok.1) h.1)
      below_no_new (Every k t b) x ok h = λ c q. below_no_new b (take k x ++ c ∷ []) ok (h c q)
      below_no_new (New g ds) x ok h = absurd ok.0

      pub belows_no_new : (ds : Trees) (x : List Value) → LookAt Anything Nothing ds → DependOn w r new Sees x ds → DependOn w r other Sees x ds
      belows_no_new none x ok h = tt
      belows_no_new (more d ds) x ok h = (below_no_new d x ok.0 h.0, belows_no_new ds x ok.1 h.1)
