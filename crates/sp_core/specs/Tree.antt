-- The plain tree that an expression stands for. All further definitions go by recursion on it.
use Rattle.std.specs.Prelude.{ℕ, suc, List, [], ◌∷◌}
use Rattle.sp_values.specs.declared.value.Value.{Value}
use Rattle.sp_values.specs.declared.value.Ty.{Ty}
use Rattle.sp_values.specs.declared.value.Op.{Op}
use Rattle.sp_core.specs.declared.expr.Expr.{Expr}
use Rattle.sp_core.specs.declared.expr.Expr.TheOpen.{Expr-F}
use Rattle.sp_core.specs.declared.expr.Expr.TheOpen as layer
use Rattle.sp_core.specs.declared.expr.Expr.TheFolds.{fold-Expr}

-- an expression and a list of expressions, with the forms of the code's type
mutual
  pub data Tree : Type 0 where
    Const : Value → Tree
    Var : ℕ → Tree
    Not : Tree → Tree
    Two : Op → Tree → Tree → Tree
    If : Tree → Tree → Tree → Tree
    Param : ℕ → Trees → Tree
    Look : ℕ → Trees → Tree
    Every : ℕ → Ty → Tree → Tree
    New : ℕ → Trees → Tree

  pub data Trees : Type 0 where
    none : Trees
    more : Tree → Trees → Trees

-- a list of trees as one value
abbrev pub trees_of : List Tree → Trees
trees_of [] = none
trees_of (t ∷ ts) = more t (trees_of ts)

-- how many trees it is
abbrev pub count : Trees → ℕ
count none = 0
count (more d ds) = suc (count ds)

-- one form, with the tree of each part in its place
abbrev pub tree_step : Expr-F Tree → Tree
tree_step (layer.Const v) = Const v
tree_step (layer.Var k) = Var k
tree_step (layer.Not a) = Not a
tree_step (layer.Two op a b) = Two op a b
tree_step (layer.If c a b) = If c a b
tree_step (layer.Param p ds) = Param p (trees_of ds)
tree_step (layer.Look g ds) = Look g (trees_of ds)
tree_step (layer.Every k t b) = Every k t b
tree_step (layer.New g ds) = New g (trees_of ds)

-- the tree of an expression
abbrev pub tree : Expr → Tree
tree = fold-Expr Tree tree_step
