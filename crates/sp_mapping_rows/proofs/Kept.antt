-- The expression of a part, or `?`.
use Rattle.std.proofs.Common.{◌≡◌, sym, ◌∙◌, ap, subst, Option, Some, None}
use Rattle.std.specs.Prelude.{if◌then◌else◌}
use Rattle.sp_values.specs.declared.value.Value.TheVariants as value
use Rattle.sp_core.specs.declared.expr.Expr.{Expr}
use Rattle.sp_core.specs.declared.expr.Expr.TheVariants as expr
use Rattle.sp_core.specs.Tree.{Const, Tree, tree}
use Rattle.sp_definitions.specs.Definitions.{kept}
use Rattle.sp_elaborate.specs.Expressions.{expression_of}
use Rattle.sp_elaborate.proofs.Expressions.{one_expression}
use Rattle.sp_expand.specs.Parts.{IsMade}

pub kept_some : (t : Tree) (o : Option Expr) (e : Expr) → IsMade t o → o ≡ Some e → e ≡ expression_of (kept t)
kept_some t o e h i =
    let m = subst (IsMade t) i h in
    one_expression e (kept t) (m.0 ∙ ap (λ b. if b then t else Const value.Unknown) (sym m.1))

pub kept_none : (t : Tree) (o : Option Expr) → IsMade t o → o ≡ None → expr.Const value.Unknown ≡ expression_of (kept t)
kept_none t o h i = ap (λ b. expression_of (if b then t else Const value.Unknown)) (sym (subst (IsMade t) i h))
