-- What a module sees, and one of its assertions by itself. For those who judge modules one by one.
use Rattle.std.specs.Prelude.{◌≡◌, ℕ, List, [], ◌++◌}
use Rattle.sp_text.specs.declared.fault.Quantity.TheVariants as quantity
use Rattle.sp_text.specs.declared.limits.TheConstants.{MOST_ASSERTIONS}
use Rattle.sp_text.specs.declared.violation.Violation.{Violation}
use Rattle.sp_tree.specs.declared.expr.ExprTree.{ExprTree}
use Rattle.sp_plain.specs.Text.{span, text}
use Rattle.sp_scopes.specs.Modules.{exceeds_at}
use Rattle.sp_judge.specs.Visible.{Visible}
use Rattle.sp_elaborate.specs.Views.{cores_from}
use Rattle.sp_functions.specs.Assertions.{assertion_broken}

-- what is visible has the expressions of all definitions, and so is the view of its module
abbrev pub IsWhole : Visible → Type 0
IsWhole s = s.cores ≡ cores_from s.names s.bottom s.top [] s.names.definitions

-- an assertion that has number a in the interface
abbrev pub numbered_broken : Visible → ℕ → ExprTree → List Violation
numbered_broken s a e = assertion_broken s (text e) ++ exceeds_at a MOST_ASSERTIONS (span (text e)) quantity.Assertions
