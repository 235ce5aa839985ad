-- The expressions of the definitions are those of the view.
use Rattle.std.proofs.Common.{◌≡◌, refl, ◌∙◌, ap, subst, sym, ℕ, List, [], ◌∷◌, ◌++◌}
use Rattle.std.specs.Prelude.{Option, Result}
use Rattle.sp_text.specs.declared.fault.TextFault.{TextFault}
use Rattle.sp_text.specs.Violations.{Judges}
use Rattle.sp_values.specs.declared.value.Ty.{Ty}
use Rattle.sp_lattice.specs.Order.{IsLatticeOrder, IsOrderOf, Order, bottom_level, top_level}
use Rattle.sp_core.specs.declared.expr.Expr.{Expr}
use Rattle.sp_plain.specs.Text.{Text}
use Rattle.sp_scopes.specs.declared.heads.Local.{Local}
use Rattle.sp_judge.specs.Broken.{typed_broken}
use Rattle.sp_judge.specs.Translation.{IsElaborated}
use Rattle.sp_scopes.specs.declared.lent.Definition.{Definition}
use Rattle.sp_scopes.specs.declared.scopes.Scopes.{Scopes}
use Rattle.sp_judge.specs.Visible.{Visible}
use Rattle.sp_definitions.specs.Definitions.{AreCores, definition_core}
use Rattle.sp_order.specs.Orders.{AreEnds, IsLower, KeepsLattice, level_count}
use Rattle.sp_order.proofs.Ends.{ends, one_bottom, one_top}
use Rattle.sp_elaborate.specs.Views.{core_of, cores_from, view}
use Rattle.sp_elaborate.proofs.Expressions.{one_expression}

module _ (s : Scopes) (bottom top : ℕ) where
  pub one_list : (before : List Expr) (ds : List Definition) (es : List Expr) → AreCores s bottom top before ds es → es ≡ cores_from s bottom top before ds
  one_list before [] [] h = refl
  one_list before [] (e ∷ es) h = absurd h
  one_list before (d ∷ ds) [] h = absurd h
  one_list before (d ∷ ds) (e ∷ es) h =
      let one = one_expression e (definition_core s bottom top before d) h.0 in
      ap (λ xs. e ∷ xs) (one_list (before ++ e ∷ []) ds es h.1) ∙ ap (λ x. x ∷ cores_from s bottom top (before ++ x ∷ []) ds) one

  pub seen_as : (k : ℕ) (es : List Expr) → AreCores s bottom top [] s.definitions es →
      record { names = s; number = k; cores = es; bottom = bottom; top = top } ≡ view s k bottom top
  seen_as k es h = ap (λ xs. record { names = s; number = k; cores = xs; bottom = bottom; top = top }) (one_list [] s.definitions es h)

-- what is judged between the ends of the lattice is judged between the ends of the order
pub at_ends : (s : Scopes) (k : ℕ) (l : List Local) (q : Option Ty) (e : Text) (r : Result (Expr × Ty) TextFault) (o : Order) (bottom top : ℕ) →
    IsOrderOf (level_count s) (IsLower s.order) o → IsLatticeOrder o → KeepsLattice s → bottom ≡ bottom_level o → top ≡ top_level o →
    Judges (typed_broken (view s k bottom top) l q e) (IsElaborated (view s k bottom top) l q e) r →
    (c u : ℕ) → AreEnds s c u → Judges (typed_broken (view s k c u) l q e) (IsElaborated (view s k c u) l q e) r
at_ends s k l q e r o bottom top is lattice keeps low high h c u other =
    let own = ends s o is lattice in
    let b = low ∙ one_bottom s (bottom_level o) (top_level o) c u keeps own other in
    let t = high ∙ one_top s (bottom_level o) (top_level o) c u keeps own other in
    subst (λ z. Judges (typed_broken (view s k c z) l q e) (IsElaborated (view s k c z) l q e) r) t
    (subst (λ z. Judges (typed_broken (view s k z top) l q e) (IsElaborated (view s k z top) l q e) r) b h)
