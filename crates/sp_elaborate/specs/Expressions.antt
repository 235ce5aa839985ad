-- The expression that has a tree; by it, what a text is translated to is one expression.
use Rattle.std.specs.Prelude.{List, [], ◌∷◌}
use Rattle.sp_core.specs.declared.expr.Expr.{Expr}
use Rattle.sp_core.specs.declared.expr.Expr.TheVariants as expr
use Rattle.sp_core.specs.Tree.{Tree, Trees, Const, Var, Not, Two, If, Param, Look, Every, New, none, more, tree}

abbrev mutual
  -- the expression that has this tree
  pub expression_of : Tree → Expr
  expression_of (Const v) = expr.Const v
  expression_of (Var k) = expr.Var k
  expression_of (Not a) = expr.Not (expression_of a)
  expression_of (Two o a b) = expr.Two o (expression_of a) (expression_of b)
  expression_of (If c a b) = expr.If (expression_of c) (expression_of a) (expression_of b)
  expression_of (Param p ds) = expr.Param p (expressions_of ds)
  expression_of (Look g ds) = expr.Look g (expressions_of ds)
  expression_of (Every k t b) = expr.Every k t (expression_of b)
  expression_of (New g ds) = expr.New g (expressions_of ds)

  pub expressions_of : Trees → List Expr
  expressions_of none = []
  expressions_of (more d ds) = expression_of d ∷ expressions_of ds
