-- What is visible at a place of a text, as contracts see a scope.
use Rattle.std.specs.Prelude.{ℕ, List, Option, None, Some, slice_get}
use Rattle.sp_core.specs.declared.expr.Expr.{Expr}
use Rattle.sp_naming.specs.declared.declaration.Entity.{Entity}
use Rattle.sp_scopes.specs.Scopes.{entity_at}
use Rattle.sp_scopes.specs.declared.heads.Head.{Head}
use Rattle.sp_scopes.specs.declared.lent.Definition.{Definition}
use Rattle.sp_scopes.specs.declared.scopes.Scopes.{Scopes}

-- The shared names, with the number of the module that sees them; the expressions of the definitions from the first on, as many as
-- may be called; and the numbers of the least and the greatest level.
pub record Visible : Type 0 where
  pub names : Scopes
  pub number : ℕ
  pub cores : List Expr
  pub bottom : ℕ
  pub top : ℕ

-- what a shared name stands for
abbrev pub see : Visible → List ℕ → Option Entity
see s x = entity_at s.names s.number x

-- the heads of parameters, functions and definitions, by number
abbrev pub param_at : Visible → ℕ → Option Head
param_at s k = slice_get s.names.parameters k

abbrev pub function_at : Visible → ℕ → Option Head
function_at s k = slice_get s.names.functions k

abbrev pub definition_head : Option Definition → Option Head
definition_head None = None
definition_head (Some d) = Some d.head

abbrev pub definition_at : Visible → ℕ → Option Head
definition_at s k = definition_head (slice_get s.names.definitions k)
