-- The nodes of a core exception.
use Rattle.std.specs.Prelude.{ℕ, List}
use Rattle.sp_core.specs.declared.expr.Expr.{Expr}
use Rattle.sp_core.specs.Measures.{nodes}
use Rattle.sp_core.specs.Tree.{tree}

-- the nodes of the condition of a core exception
abbrev pub condition_count : List ℕ × Expr → ℕ
condition_count e = nodes (tree e.1)
