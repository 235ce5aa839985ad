-- What is said by what the interface sees is said by the views of an interface's names.
use Rattle.std.proofs.Common.{◌≡◌, refl, ap, ℕ, List, [], ◌∷◌, ◌++◌, length}
use Rattle.sp_text.specs.Violations.{in_file}
use Rattle.sp_tree.specs.declared.interface.Equation.{Equation}
use Rattle.sp_tree.specs.declared.module.Module.{Module}
use Rattle.sp_core.specs.declared.expr.Expr.{Expr}
use Rattle.sp_naming.specs.Numbers.{after, counted}
use Rattle.sp_scopes.specs.declared.scopes.Scopes.{Scopes}
use Rattle.sp_elaborate.specs.Views.{cores_from, view}
use Rattle.sp_functions.specs.Equations.{equations_broken}
use Rattle.sp_specification.specs.Ends as ends
use Rattle.sp_specification.specs.Ends.{levels_broken, whole_view}
use Rattle.sp_making.specs.Seen.{ends_broken, modules_broken}

module _ (s : Scopes) (bottom top : ℕ) (qs : List Equation) where
  same_modules : (k g : ℕ) (ms : List Module) → modules_broken (whole_view s bottom top) qs k g ms ≡ ends.modules_broken s bottom top (whole_view s bottom top) qs k g ms
  same_modules k g [] = refl
  same_modules k g (m ∷ ms) =
      ap (λ vs. in_file (counted 1 k) (levels_broken (view s k bottom top) (whole_view s bottom top) qs g m.functions) ++ vs)
      (same_modules (after k) (counted g (length m.functions)) ms)

  pub same_ends : (ms : List Module) → ends_broken (whole_view s bottom top) qs ms ≡
      in_file 0 (equations_broken (whole_view s bottom top) qs) ++ ends.modules_broken s bottom top (whole_view s bottom top) qs 0 0 ms
  same_ends ms = ap (λ vs. in_file 0 (equations_broken (whole_view s bottom top) qs) ++ vs) (same_modules 0 0 ms)

-- with the expressions of all definitions, the interface sees its view
pub seen_whole : (s : Scopes) (bottom top n : ℕ) (cores : List Expr) → n ≡ counted 0 (length s.takes) → cores ≡ cores_from s bottom top [] s.definitions →
    record { names = s; number = n; cores = cores; bottom = bottom; top = top } ≡ whole_view s bottom top
seen_whole s bottom top n cores h i j = record { names = s; number = h j; cores = i j; bottom = bottom; top = top }
