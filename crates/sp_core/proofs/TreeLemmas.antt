-- The tree of each form of expressions and effects: the equations of their folds.
use Rattle.std.proofs.Common.{◌≡◌, refl, rules, ℕ, List, ◌∷◌, map}
use Rattle.sp_values.specs.declared.value.Value.{Value}
use Rattle.sp_values.specs.declared.value.Ty.{Ty}
use Rattle.sp_values.specs.declared.value.Op.{Op}
use Rattle.sp_core.specs.declared.expr.Expr.{Expr}
use Rattle.sp_core.specs.declared.expr.Expr.TheVariants as expr
use Rattle.sp_core.specs.declared.expr.Expr.TheFolds as expr_folds
use Rattle.sp_core.specs.declared.function.Effect.{Effect}
use Rattle.sp_core.specs.declared.function.Effect.TheVariants as effect
use Rattle.sp_core.specs.declared.function.Effect.TheFolds as effect_folds
use Rattle.sp_core.specs.declared.function.Kind.TheVariants as kind
use Rattle.sp_core.specs.Tree.{Const, Var, Not, Two, If, Param, Look, Every, New, tree, trees_of}
use Rattle.sp_core.specs.Effects.{effect_tree, effect_trees, effect_trees_of}
use Rattle.sp_core.specs.Effects as works

pub tree-Const : (v : Value) → tree (expr.Const v) ≡ Const v
tree-Const v = search (rules, expr_folds.the_lemmas)

pub tree-Var : (k : ℕ) → tree (expr.Var k) ≡ Var k
tree-Var k = search (rules, expr_folds.the_lemmas)

pub tree-Not : (a : Expr) → tree (expr.Not a) ≡ Not (tree a)
tree-Not a = search (rules, expr_folds.the_lemmas)

pub tree-Two : (o : Op) (a b : Expr) → tree (expr.Two o a b) ≡ Two o (tree a) (tree b)
tree-Two o a b = search (rules, expr_folds.the_lemmas)

pub tree-If : (c a b : Expr) → tree (expr.If c a b) ≡ If (tree c) (tree a) (tree b)
tree-If c a b = search (rules, expr_folds.the_lemmas)

pub tree-Param : (p : ℕ) (ds : List Expr) → tree (expr.Param p ds) ≡ Param p (trees_of (map tree ds))
tree-Param p ds = search (rules, expr_folds.the_lemmas)

pub tree-Look : (g : ℕ) (ds : List Expr) → tree (expr.Look g ds) ≡ Look g (trees_of (map tree ds))
tree-Look g ds = search (rules, expr_folds.the_lemmas)

pub tree-Every : (k : ℕ) (t : Ty) (b : Expr) → tree (expr.Every k t b) ≡ Every k t (tree b)
tree-Every k t b = search (rules, expr_folds.the_lemmas)

pub tree-New : (g : ℕ) (ds : List Expr) → tree (expr.New g ds) ≡ New g (trees_of (map tree ds))
tree-New g ds = search (rules, expr_folds.the_lemmas)

pub ruleset tree_lemmas = (tree-Const, tree-Var, tree-Not, tree-Two, tree-If, tree-Param, tree-Look, tree-Every, tree-New)

pub effect_tree-Change : (g : ℕ) (ds : List Expr) (e : Expr) → effect_tree (effect.Change g ds e) ≡ works.Change g (trees_of (map tree ds)) (tree e)
effect_tree-Change g ds e = search (rules, effect_folds.the_lemmas)

pub effect_tree-Answer : (e : Expr) → effect_tree (effect.Answer e) ≡ works.Answer (tree e)
effect_tree-Answer e = search (rules, effect_folds.the_lemmas)

pub effect_tree-If : (c : Expr) (as' bs : List Effect) → effect_tree (effect.If c as' bs) ≡ works.If (tree c) (effect_trees_of (map effect_tree as')) (effect_trees_of (map effect_tree bs))
effect_tree-If c as' bs = search (rules, effect_folds.the_lemmas)

pub effect_tree-Every : (k : ℕ) (t : Ty) (ws : List Effect) → effect_tree (effect.Every k t ws) ≡ works.Every k t (effect_trees_of (map effect_tree ws))
effect_tree-Every k t ws = search (rules, effect_folds.the_lemmas)

pub ruleset effect_lemmas = (effect_tree-Change, effect_tree-Answer, effect_tree-If, effect_tree-Every)

-- the effects of an O-function and of an OV-function are those of its list
pub effect_trees-Operation : (ws : List Effect) → effect_trees (kind.Operation ws) ≡ effect_trees_of (map effect_tree ws)
effect_trees-Operation ws = refl

pub effect_trees-Both : (t : Ty) (ws : List Effect) → effect_trees (kind.Both t ws) ≡ effect_trees_of (map effect_tree ws)
effect_trees-Both t ws = refl

-- the first effect, and then the rest
pub effect_trees_of-more : (w : Effect) (ws : List Effect) → effect_trees_of (map effect_tree (w ∷ ws)) ≡ works.more (effect_tree w) (effect_trees_of (map effect_tree ws))
effect_trees_of-more w ws = refl
