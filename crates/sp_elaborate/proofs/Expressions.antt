-- An expression is that of its tree.
use Rattle.std.proofs.Common.{◌≡◌, refl, sym, ◌∙◌, ap, subst, List, [], ◌∷◌, map}
use Rattle.sp_core.specs.declared.expr.Expr.{Expr, map-Expr, roll-Expr}
use Rattle.sp_core.specs.declared.expr.Expr.TheVariants as expr
use Rattle.sp_core.specs.declared.expr.Expr.TheOpen.{Expr-F}
use Rattle.sp_core.specs.declared.expr.Expr.TheOpen as layer
use Rattle.sp_core.specs.declared.expr.Expr.TheFolds.{ind-Expr}
use Rattle.sp_core.specs.Tree.{Tree, tree, trees_of}
use Rattle.sp_core.proofs.TreeLemmas.{tree-Const, tree-Var, tree-Not, tree-Two, tree-If, tree-Param, tree-Look, tree-Every, tree-New}
use Rattle.sp_elaborate.specs.Expressions.{expression_of, expressions_of}

abbrev IsOwn : Expr → Type 0
IsOwn e = expression_of (tree e) ≡ e

abbrev Own : Type 0
Own = (e : Expr) × IsOwn e

abbrev whole : Own → Expr
whole e = e.0

owns : (ds : List Own) → expressions_of (trees_of (map tree (map whole ds))) ≡ map whole ds
owns [] = refl
owns (d ∷ ds) = ap (λ x. x ∷ expressions_of (trees_of (map tree (map whole ds)))) d.1 ∙ ap (λ xs. d.0 ∷ xs) (owns ds)

own_layer : (y : Expr-F Own) → IsOwn (roll-Expr (map-Expr Own Expr whole y))
own_layer (layer.Const v) = subst IsOwn (sym (expr.rolls-Const v)) (ap expression_of (tree-Const v))
own_layer (layer.Var k) = subst IsOwn (sym (expr.rolls-Var k)) (ap expression_of (tree-Var k))
own_layer (layer.Not a) = subst IsOwn (sym (expr.rolls-Not a.0)) (ap expression_of (tree-Not a.0) ∙ ap expr.Not a.1)
own_layer (layer.Two o a b) = subst IsOwn (sym (expr.rolls-Two o a.0 b.0)) (ap expression_of (tree-Two o a.0 b.0) ∙ (ap (λ x. expr.Two o x (expression_of (tree b.0))) a.1 ∙ ap (expr.Two o a.0) b.1))
own_layer (layer.If c a b) =
    subst IsOwn (sym (expr.rolls-If c.0 a.0 b.0)) (ap expression_of (tree-If c.0 a.0 b.0) ∙ (ap (λ x. expr.If x (expression_of (tree a.0)) (expression_of (tree b.0))) c.1 ∙
    (ap (λ x. expr.If c.0 x (expression_of (tree b.0))) a.1 ∙ ap (expr.If c.0 a.0) b.1)))
own_layer (layer.Param p ds) = subst IsOwn (sym (expr.rolls-Param p (map whole ds))) (ap expression_of (tree-Param p (map whole ds)) ∙ ap (expr.Param p) (owns ds))
own_layer (layer.Look g ds) = subst IsOwn (sym (expr.rolls-Look g (map whole ds))) (ap expression_of (tree-Look g (map whole ds)) ∙ ap (expr.Look g) (owns ds))
own_layer (layer.Every k t b) = subst IsOwn (sym (expr.rolls-Every k t b.0)) (ap expression_of (tree-Every k t b.0) ∙ ap (expr.Every k t) b.1)
own_layer (layer.New g ds) = subst IsOwn (sym (expr.rolls-New g (map whole ds))) (ap expression_of (tree-New g (map whole ds)) ∙ ap (expr.New g) (owns ds))

pub own : (e : Expr) → IsOwn e
own = ind-Expr IsOwn (λ x y is. subst (λ z. IsOwn (roll-Expr z)) is (own_layer y))

-- so the expression that has a tree is one
pub one_expression : (e : Expr) (t : Tree) → tree e ≡ t → e ≡ expression_of t
one_expression e t h = sym (own e) ∙ ap expression_of h
