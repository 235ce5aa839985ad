-- Lists of core assertions and functions to which those of more texts are added.
use Rattle.std.specs.Prelude.{◌≡◌, ℕ, List, ◌++◌, length}
use Rattle.sp_tree.specs.declared.expr.ExprTree.{ExprTree}
use Rattle.sp_tree.specs.declared.interface.Equation.{Equation}
use Rattle.sp_tree.specs.declared.module.FunDecl.{FunDecl}
use Rattle.sp_core.specs.declared.function.Assertion.{Assertion}
use Rattle.sp_core.specs.declared.function.Function.{Function}
use Rattle.sp_judge.specs.Visible.{Visible}
use Rattle.sp_specification.specs.Meaning.{AreAssertions, AreFunctions}
use Rattle.sp_making.specs.Seen.{at_module}

-- the second list is the first with the assertions of these texts behind it
abbrev pub AddsAssertions : Visible → List (ℕ × ExprTree) → List Assertion → List Assertion → Type 0
AddsAssertions t xs old new = (more : List Assertion) × (new ≡ old ++ more) × AreAssertions (at_module t) xs more

-- the second list is the first with the functions of these texts behind it, whose numbers go on
abbrev pub AddsFunctions : Visible → List Equation → List (ℕ × FunDecl) → List Function → List Function → Type 0
AddsFunctions t qs xs old new = (more : List Function) × (new ≡ old ++ more) × AreFunctions (at_module t) t qs (length old) xs more
