-- The specification that an interface and its modules stand for, where they break nothing.
use Rattle.std.specs.Prelude.{◌≡◌, ℕ, suc, List, [], ◌∷◌, map, Option, None, Some}
use Rattle.sp_lattice.specs.Order.{IsOrderOf}
use Rattle.sp_tree.specs.declared.expr.ExprTree.{ExprTree}
use Rattle.sp_tree.specs.declared.interface.Equation.{Equation}
use Rattle.sp_tree.specs.declared.interface.InterfaceTree.{InterfaceTree}
use Rattle.sp_tree.specs.declared.module.FunDecl.{FunDecl}
use Rattle.sp_tree.specs.declared.module.Module.{Module}
use Rattle.sp_core.specs.declared.function.Assertion.{Assertion}
use Rattle.sp_core.specs.declared.function.Function.{Function}
use Rattle.sp_core.specs.declared.function.Param.{Param}
use Rattle.sp_core.specs.declared.function.TypeInfo.{TypeInfo}
use Rattle.sp_core.specs.Parts.{Parts}
use Rattle.sp_naming.specs.Numbers.{numbered}
use Rattle.sp_plain.specs.Text.{text}
use Rattle.sp_scopes.specs.declared.heads.Head.{Head}
use Rattle.sp_scopes.specs.declared.lent.DeclaredType.{DeclaredType}
use Rattle.sp_scopes.specs.declared.scopes.Scopes.{Scopes}
use Rattle.sp_scopes.specs.Scopes.{scopes_of}
use Rattle.sp_judge.specs.Visible.{Visible, function_at}
use Rattle.sp_elaborate.specs.Views.{view}
use Rattle.sp_order.specs.Orders.{AreEnds, IsLower, level_count}
use Rattle.sp_functions.specs.Assertions.{IsAssertionOf, formal_of}
use Rattle.sp_specification.specs.Ends.{equation_of, level_tree, whole_view}
use Rattle.sp_specification.specs.Functions.{IsFunctionOf, head_type}

-- a declared type, and a parameter
abbrev pub type_info : DeclaredType → TypeInfo
type_info d = record { name = d.name; members = d.members }

abbrev pub param_of : Head → Param
param_of h = record { name = h.name; formals = map formal_of h.formals; ty = head_type h.sort }

-- the texts of assertions and of functions in order, each with the number of its module
abbrev pub numbered_assertions : ℕ → Module → List (ℕ × ExprTree)
numbered_assertions k m = map (λ e. (k, e)) m.assertions

abbrev pub assertion_texts : List Module → List (ℕ × ExprTree)
assertion_texts ms = numbered numbered_assertions 0 ms

abbrev pub numbered_functions : ℕ → Module → List (ℕ × FunDecl)
numbered_functions k m = map (λ x. (k, x)) m.functions

abbrev pub function_texts : List Module → List (ℕ × FunDecl)
function_texts ms = numbered numbered_functions 0 ms

-- the core assertions of texts, where `see` is what each module sees
abbrev pub AreAssertions : (ℕ → Visible) → List (ℕ × ExprTree) → List Assertion → Type 0
AreAssertions see [] [] = Unit {0}
AreAssertions see [] (a ∷ as') = ⊥
AreAssertions see (e ∷ es) [] = ⊥
AreAssertions see (e ∷ es) (a ∷ as') = IsAssertionOf (see e.0) (text e.1) a × AreAssertions see es as'

-- the core function of a text, whose head and level equation are there; `t` is what the interface sees
abbrev pub IsLevelled : Visible → Visible → Option Head → Option Equation → FunDecl → Function → Type 0
IsLevelled s t None q x f = ⊥
IsLevelled s t (Some h) None x f = ⊥
IsLevelled s t (Some h) (Some q) x f = IsFunctionOf s h x (level_tree t q) f

-- the core functions of texts, of which the first has number g
abbrev pub AreFunctions : (ℕ → Visible) → Visible → List Equation → ℕ → List (ℕ × FunDecl) → List Function → Type 0
AreFunctions see t qs g [] [] = Unit {0}
AreFunctions see t qs g [] (f ∷ fs) = ⊥
AreFunctions see t qs g (x ∷ xs) [] = ⊥
AreFunctions see t qs g (x ∷ xs) (f ∷ fs) = IsLevelled (see x.0) t (function_at t g) (equation_of t qs g) x.1 f × AreFunctions see t qs (suc g) xs fs

-- The specification of an interface and its modules, of whose names s tells all; these are the least and the greatest level.
pub record IsMeant (s : Scopes) (bottom top : ℕ) (i : InterfaceTree) (ms : List Module) (p : Parts) : Type 0 where
  pub name : p.name ≡ i.name.name
  pub lattice : IsOrderOf (level_count s) (IsLower s.order) p.lattice
  pub level_names : p.level_names ≡ s.levels
  pub types : p.types ≡ map type_info s.types
  pub params : p.params ≡ map param_of s.parameters
  pub assertions : AreAssertions (λ k. view s k bottom top) (assertion_texts ms) p.assertions
  pub functions : AreFunctions (λ k. view s k bottom top) (whole_view s bottom top) i.levels 0 (function_texts ms) p.functions

-- the specification that the trees stand for
pub record IsSpecOf (i : InterfaceTree) (ms : List Module) (p : Parts) : Type 0 where
  pub bottom : ℕ
  pub top : ℕ
  pub ends : AreEnds (scopes_of i ms) bottom top
  pub meant : IsMeant (scopes_of i ms) bottom top i ms p
