-- The second pass: what definitions, assertions and functions break, in all modules.
use Rattle.std.specs.Prelude.{ℕ, List, [], ◌∷◌, ◌++◌, length, Option, None, Some}
use Rattle.sp_text.specs.declared.fault.Quantity.TheVariants as quantity
use Rattle.sp_text.specs.declared.limits.TheConstants.{MOST_ASSERTIONS}
use Rattle.sp_text.specs.declared.violation.FileViolation.{FileViolation}
use Rattle.sp_text.specs.declared.violation.Violation.{Violation}
use Rattle.sp_text.specs.Violations.{in_file}
use Rattle.sp_tree.specs.declared.expr.ExprTree.{ExprTree}
use Rattle.sp_tree.specs.declared.module.FunDecl.{FunDecl}
use Rattle.sp_tree.specs.declared.module.Module.{Module}
use Rattle.sp_plain.specs.Text.{span, text}
use Rattle.sp_naming.specs.Numbers.{after, counted}
use Rattle.sp_scopes.specs.declared.heads.Head.{Head}
use Rattle.sp_scopes.specs.declared.scopes.Scopes.{Scopes}
use Rattle.sp_scopes.specs.Modules.{exceeds_at}
use Rattle.sp_judge.specs.Visible.{Visible, function_at}
use Rattle.sp_elaborate.specs.Views.{view}
use Rattle.sp_functions.specs.Assertions.{assertion_broken}
use Rattle.sp_functions.specs.DefinitionTexts.{definitions_broken}
use Rattle.sp_specification.specs.Functions.{depth_of, function_broken}

-- assertions of a module, of which the first has number a in the interface; and the first one over the limit
abbrev pub assertions_broken : Visible → ℕ → List ExprTree → List Violation
assertions_broken s a [] = []
assertions_broken s a (e ∷ es) =
    (assertion_broken s (text e) ++ exceeds_at a MOST_ASSERTIONS (span (text e)) quantity.Assertions) ++ assertions_broken s (after a) es

-- the number of the next function, where the functions before it have these depths
abbrev pub next_number : List ℕ → ℕ
next_number before = counted 0 (length before)

-- what a function breaks, where its head is there
abbrev pub headed_broken : Visible → List ℕ → Option Head → FunDecl → List Violation
headed_broken s before None x = []
headed_broken s before (Some h) x = function_broken s (next_number before) before h x

abbrev pub headed_depth : Visible → List ℕ → Option Head → FunDecl → ℕ
headed_depth s before None x = 0
headed_depth s before (Some h) x = depth_of s before h x.body

-- the head of the next function
abbrev pub next_head : Visible → List ℕ → Option Head
next_head s before = function_at s (next_number before)

-- the depths of functions of a module too, after those before them
abbrev pub depths_after : Visible → List ℕ → List FunDecl → List ℕ
depths_after s before [] = before
depths_after s before (x ∷ xs) = depths_after s (before ++ headed_depth s before (next_head s before) x ∷ []) xs

-- functions of a module
abbrev pub functions_broken : Visible → List ℕ → List FunDecl → List Violation
functions_broken s before [] = []
functions_broken s before (x ∷ xs) =
    headed_broken s before (next_head s before) x
    ++ functions_broken s (before ++ headed_depth s before (next_head s before) x ∷ []) xs

-- a module: its assertions and its functions
abbrev pub module_broken : Visible → ℕ → List ℕ → Module → List Violation
module_broken s a before m = assertions_broken s a m.assertions ++ functions_broken s before m.functions

-- modules of which the first has number k, after so many assertions and functions of these depths; each is a file
abbrev pub modules_broken : Scopes → ℕ → ℕ → ℕ → ℕ → List ℕ → List Module → List FileViolation
modules_broken s bottom top k a before [] = []
modules_broken s bottom top k a before (m ∷ ms) =
    in_file (counted 1 k) (module_broken (view s k bottom top) a before m)
    ++ modules_broken s bottom top (after k) (counted a (length m.assertions)) (depths_after (view s k bottom top) before m.functions) ms

-- what definitions, assertions and functions break, where these levels are the least and the greatest
abbrev pub bodies_broken : Scopes → ℕ → ℕ → List Module → List FileViolation
bodies_broken s bottom top ms =
    definitions_broken (view s 0 bottom top) 0 s.definitions ++ modules_broken s bottom top 0 0 [] ms
