-- Lists of arguments of upper levels.
use Rattle.std.proofs.Common.{◌≡◌, refl, sym, ◌∙◌, ap, subst, arith, ℕ, zero, suc, ◌+◌, ◌<◌, ◌≤◌, List, [], ◌∷◌, ◌++◌, length, map, take, get_or}
use Rattle.std.proofs.lemmas.List.{take_more}
use Rattle.sp_core.specs.declared.expr.Expr.{Expr}
use Rattle.sp_core.specs.Tree.{more, tree, trees_of}
use Rattle.sp_expand.specs.Expansion.{AreScoped, IsScoped, joined}
use Rattle.sp_mapping_rules.specs.Levels.{level_over, levels_over}

pub scoped-part : (n : ℕ) (ds : List Expr) (k : ℕ) (d : Expr) → AreScoped n (trees_of (map tree ds)) → k < length ds → d ≡ get_or ds k d → IsScoped n (tree d)
scoped-part n [] k d h l e = absurd (omega (arith, l))
scoped-part n (a ∷ ds) zero d h l e = subst (λ x. IsScoped n (tree x)) (sym e) h.0
scoped-part n (a ∷ ds) (suc k) d h l e = scoped-part n ds k d h.1 (omega (arith, l)) e

module _ (ts : List ℕ) (ps : List Expr) (n : ℕ) where
  levels-append : (ds : List Expr) (d : Expr) → joined (levels_over ts ps n (trees_of (map tree ds))) (level_over ts ps n (tree d)) ≡ levels_over ts ps n (trees_of (map tree (ds ++ d ∷ [])))
  levels-append [] d = refl
  levels-append (a ∷ ds) d = ap (more (level_over ts ps n (tree a))) (levels-append ds d)

  pub levels-next : (ds : List Expr) (k : ℕ) (d : Expr) → k < length ds → d ≡ get_or ds k d →
      joined (levels_over ts ps n (trees_of (map tree (take k ds)))) (level_over ts ps n (tree d)) ≡ levels_over ts ps n (trees_of (map tree (take (k + 1) ds)))
  levels-next ds k d h e = levels-append (take k ds) d ∙ ap (λ z. levels_over ts ps n (trees_of (map tree z))) (sym (take_more ds k d h ∙ ap (λ x. take k ds ++ x ∷ []) (sym e)))
