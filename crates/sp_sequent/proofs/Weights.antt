-- A size of trees.
use Rattle.std.proofs.Common.{ℕ, suc, ◌+◌}
use Rattle.sp_core.specs.Tree.{Tree, Trees, Const, Var, Not, Two, If, Param, Look, Every, New, none, more}

-- a size that falls from a whole to its parts, and from a list to its rest
abbrev mutual
  pub weight : Tree → ℕ
  weight (Const v) = 1
  weight (Var k) = 1
  weight (Not a) = suc (weight a)
  weight (Two o a b) = suc (weight a + weight b)
  weight (If c a b) = suc (weight c + (weight a + weight b))
  weight (Param p ds) = suc (weights ds)
  weight (Look g ds) = suc (weights ds)
  weight (Every k t b) = suc (weight b)
  weight (New g ds) = suc (weights ds)

  pub weights : Trees → ℕ
  weights none = 0
  weights (more d ds) = suc (weight d + weights ds)
