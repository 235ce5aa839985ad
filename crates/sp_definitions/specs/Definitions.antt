-- The expressions of the definitions of an interface, each with those before it expanded.
use Rattle.std.specs.Prelude.{◌≡◌, ◌<◌, ◌+◌, ◌++◌, ℕ, List, [], ◌∷◌, length, if◌then◌else◌}
use Rattle.sp_values.specs.declared.value.Value.TheVariants as value
use Rattle.sp_core.specs.declared.expr.Expr.{Expr}
use Rattle.sp_core.specs.Tree.{Tree, Const, tree}
use Rattle.sp_expand.specs.Sizes.{size, within}
use Rattle.sp_plain.specs.Text.{text}
use Rattle.sp_scopes.specs.declared.lent.Definition.{Definition}
use Rattle.sp_scopes.specs.declared.scopes.Scopes.{Scopes}
use Rattle.sp_judge.specs.Translation.{binders, translation}
use Rattle.sp_judge.specs.Visible.{Visible}

-- an expression within the limits; what exceeds one is refused where it is judged, and stands here as `?`
abbrev pub kept : Tree → Tree
kept t = if within (size t) then t else Const value.Unknown

-- what the text of a definition sees, where `before` are the expressions of those before it
abbrev pub visible_to : Scopes → ℕ → ℕ → List Expr → Definition → Visible
visible_to s bottom top before d = record { names = s; number = d.module_number; cores = before; bottom = bottom; top = top }

-- the translation of its text over its formals
abbrev pub definition_core : Scopes → ℕ → ℕ → List Expr → Definition → Tree
definition_core s bottom top before d = kept (translation (visible_to s bottom top before d) d.head.formals (text d.text))

-- the expressions of definitions, those before them given
abbrev pub AreCores : Scopes → ℕ → ℕ → List Expr → List Definition → List Expr → Type 0
AreCores s bottom top before [] [] = Unit {0}
AreCores s bottom top before [] (e ∷ es) = ⊥
AreCores s bottom top before (d ∷ ds) [] = ⊥
AreCores s bottom top before (d ∷ ds) (e ∷ es) = (tree e ≡ definition_core s bottom top before d) × AreCores s bottom top (before ++ e ∷ []) ds es

-- variables are numbered with 32 bits, far more than a text of limited height binds
abbrev pub HasRoom : Definition → Type 0
HasRoom d = length d.head.formals + binders (text d.text) < 4294967288
