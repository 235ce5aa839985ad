-- What the exceptions of a function break, and what is made of them.
use Rattle.std.specs.Prelude.{◌≡◌, ◌+◌, ◌<◌, ℕ, List, [], ◌∷◌, ◌++◌, map, Some}
use Rattle.std.specs.List.{All, flat_map}
use Rattle.sp_text.specs.declared.fault.Quantity.TheVariants as quantity
use Rattle.sp_text.specs.declared.limits.TheConstants.{MOST_EXCEPTIONS}
use Rattle.sp_text.specs.declared.violation.Violation.{Violation}
use Rattle.sp_values.specs.declared.value.Ty.TheVariants as ty
use Rattle.sp_tree.specs.declared.names.Ident.{Ident}
use Rattle.sp_tree.specs.declared.expr.ExprTree.{ExprTree}
use Rattle.sp_core.specs.declared.expr.Expr.{Expr}
use Rattle.sp_core.specs.Tree.{tree}
use Rattle.sp_plain.specs.Text.{text}
use Rattle.sp_naming.specs.Names.{repeated_names}
use Rattle.sp_scopes.specs.Headers.{past}
use Rattle.sp_scopes.specs.declared.heads.Local.{Local}
use Rattle.sp_judge.specs.declared.scope.Site.TheVariants as site
use Rattle.sp_judge.specs.Visible.{Visible}
use Rattle.sp_judge.specs.Broken.{whole_broken}
use Rattle.sp_judge.specs.Translation.{binders}
use Rattle.sp_functions.specs.Judged.{made}

abbrev pub exception_name : Ident × ExprTree → Ident
exception_name x = x.0

abbrev pub exception_names : List (Ident × ExprTree) → List Ident
exception_names xs = map exception_name xs

abbrev pub condition_broken : Visible → List Local → Ident × ExprTree → List Violation
condition_broken s l x = whole_broken s site.Outside l (Some ty.Boolean) (text x.1)

-- exceptions: a name that an earlier one has, the seventeenth, and what their conditions break
abbrev pub exceptions_broken : Visible → List Local → List (Ident × ExprTree) → List Violation
exceptions_broken s l xs =
    (repeated_names [] (exception_names xs) ++ past MOST_EXCEPTIONS quantity.Exceptions (exception_names xs))
    ++ flat_map (condition_broken s l) xs

-- the core exception that one stands for, and all of them
pub record IsExceptionOf (s : Visible) (l : List Local) (x : Ident × ExprTree) (e : List ℕ × Expr) : Type 0 where
  pub name : e.0 ≡ x.0.name
  pub condition : tree e.1 ≡ made s l (text x.1)

abbrev pub AreExceptionsOf : Visible → List Local → List (Ident × ExprTree) → List (List ℕ × Expr) → Type 0
AreExceptionsOf s l [] [] = Unit {0}
AreExceptionsOf s l [] (e ∷ es) = ⊥
AreExceptionsOf s l (x ∷ xs) [] = ⊥
AreExceptionsOf s l (x ∷ xs) (e ∷ es) = IsExceptionOf s l x e × AreExceptionsOf s l xs es

-- variables are numbered with 32 bits, far more than a text of limited height binds; n are around
abbrev pub HasRoom : ℕ → Ident × ExprTree → Type 0
HasRoom n x = n + binders (text x.1) < 4294967288

abbrev pub HaveRoom : ℕ → List (Ident × ExprTree) → Type 0
HaveRoom n xs = All (HasRoom n) xs
