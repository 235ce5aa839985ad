-- There is one expression a definition.
use Rattle.std.proofs.Common.{◌≡◌, refl, ◌∙◌, ap, ℕ, suc, List, [], ◌∷◌, ◌++◌, length}
use Rattle.sp_core.specs.declared.expr.Expr.{Expr}
use Rattle.sp_scopes.specs.declared.lent.Definition.{Definition}
use Rattle.sp_scopes.specs.declared.scopes.Scopes.{Scopes}
use Rattle.sp_judge.specs.Visible.{Visible}
use Rattle.sp_elaborate.specs.Views.{core_of, cores_from}
use Rattle.sp_bodies.specs.Seen.{IsWhole}

count-cores : (s : Scopes) (bottom top : ℕ) (before : List Expr) (ds : List Definition) → length (cores_from s bottom top before ds) ≡ length ds
count-cores s bottom top before [] = refl
count-cores s bottom top before (d ∷ ds) = ap suc (count-cores s bottom top (before ++ core_of s bottom top before d ∷ []) ds)

pub whole_count : (s : Visible) → IsWhole s → length s.cores ≡ length s.names.definitions
whole_count s h = ap length h ∙ count-cores s.names s.bottom s.top [] s.names.definitions
