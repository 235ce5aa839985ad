-- What the modules of an interface see, with the expressions of all definitions. For those who judge what stands in modules.
use Rattle.std.specs.Prelude.{ℕ, List, [], ◌∷◌, ◌++◌}
use Rattle.sp_core.specs.declared.expr.Expr.{Expr}
use Rattle.sp_scopes.specs.declared.lent.Definition.{Definition}
use Rattle.sp_scopes.specs.declared.scopes.Scopes.{Scopes}
use Rattle.sp_judge.specs.Visible.{Visible}
use Rattle.sp_definitions.specs.Definitions.{definition_core}
use Rattle.sp_elaborate.specs.Expressions.{expression_of}

-- the expression of a definition, with those before it expanded
abbrev pub core_of : Scopes → ℕ → ℕ → List Expr → Definition → Expr
core_of s bottom top before d = expression_of (definition_core s bottom top before d)

-- the expressions of definitions, those before them given
abbrev pub cores_from : Scopes → ℕ → ℕ → List Expr → List Definition → List Expr
cores_from s bottom top before [] = []
cores_from s bottom top before (d ∷ ds) =
    core_of s bottom top before d ∷ cores_from s bottom top (before ++ core_of s bottom top before d ∷ []) ds

-- what is visible in module k, where these levels are the least and the greatest
abbrev pub view : Scopes → ℕ → ℕ → ℕ → Visible
view s k bottom top = record { names = s; number = k; cores = cores_from s bottom top [] s.definitions; bottom = bottom; top = top }
