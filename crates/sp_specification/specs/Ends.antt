-- The third pass: the level equations, functions without a level, and the nodes of functions.
use Rattle.std.specs.Prelude.{ℕ, Bool, false, List, [], ◌∷◌, ◌++◌, length, Option, None, Some, nat_eq, if◌then◌else◌, nat_lt}
use Rattle.std.specs.List.{find}
use Rattle.sp_text.specs.declared.fault.Quantity.TheVariants as quantity
use Rattle.sp_text.specs.declared.fault.Rule.TheVariants as rule
use Rattle.sp_text.specs.declared.limits.TheConstants.{MOST_FUNCTION_NODES}
use Rattle.sp_text.specs.declared.violation.FileViolation.{FileViolation}
use Rattle.sp_text.specs.declared.violation.Violation.{Violation}
use Rattle.sp_text.specs.Violations.{breaks, exceeds, in_file}
use Rattle.sp_tree.specs.declared.interface.Equation.{Equation}
use Rattle.sp_tree.specs.declared.interface.InterfaceTree.{InterfaceTree}
use Rattle.sp_tree.specs.declared.module.FunDecl.{FunDecl}
use Rattle.sp_tree.specs.declared.module.Module.{Module}
use Rattle.sp_core.specs.Tree.{Tree}
use Rattle.sp_plain.specs.Text.{text}
use Rattle.sp_naming.specs.declared.declaration.Entity.{Entity}
use Rattle.sp_naming.specs.declared.declaration.Entity.TheVariants as entity
use Rattle.sp_naming.specs.Numbers.{after, counted}
use Rattle.sp_scopes.specs.declared.heads.Head.{Head}
use Rattle.sp_scopes.specs.declared.scopes.Scopes.{Scopes}
use Rattle.sp_judge.specs.Visible.{Visible, function_at, see}
use Rattle.sp_elaborate.specs.Views.{view}
use Rattle.sp_functions.specs.Equations.{equations_broken, locals_of}
use Rattle.sp_functions.specs.Judged.{made}
use Rattle.sp_specification.specs.Functions.{nodes_of}

-- whether a name stands for function g
abbrev pub is_function : ℕ → Option Entity → Bool
is_function g (Some (entity.Function h)) = nat_eq h g
is_function g e = false

-- the equation is that of function g
abbrev pub is_of : Visible → ℕ → Equation → Bool
is_of s g q = is_function g (see s q.name.name)

-- the level equation of function g, the first that has its name
abbrev pub equation_of : Visible → List Equation → ℕ → Option Equation
equation_of s qs g = find (is_of s g) qs

-- the tree of the level that an equation gives
abbrev pub level_tree : Visible → Equation → Tree
level_tree s q = made s (locals_of s q) (text q.value)

-- The level of a function, whose name is missing or whose nodes are too many; `s` is what its module sees, and `t` what the interface.
abbrev pub level_broken : Visible → Visible → Option Head → FunDecl → Option Equation → List Violation
level_broken s t h x None = breaks x.head.name.span rule.NoLevel
level_broken s t None x (Some q) = []
level_broken s t (Some h) x (Some q) = if nat_lt MOST_FUNCTION_NODES (nodes_of s h x (level_tree t q)) then exceeds x.head.name.span quantity.FunctionNodes else []

-- functions of a module, of which the first has number g in the interface
abbrev pub levels_broken : Visible → Visible → List Equation → ℕ → List FunDecl → List Violation
levels_broken s t qs g [] = []
levels_broken s t qs g (x ∷ xs) = level_broken s t (function_at s g) x (equation_of t qs g) ++ levels_broken s t qs (after g) xs

-- modules of which the first has number k and its first function number g; each is a file
abbrev pub modules_broken : Scopes → ℕ → ℕ → Visible → List Equation → ℕ → ℕ → List Module → List FileViolation
modules_broken s bottom top t qs k g [] = []
modules_broken s bottom top t qs k g (m ∷ ms) =
    in_file (counted 1 k) (levels_broken (view s k bottom top) t qs g m.functions)
    ++ modules_broken s bottom top t qs (after k) (counted g (length m.functions)) ms

-- what the interface sees, whose number comes after the modules'
abbrev pub whole_view : Scopes → ℕ → ℕ → Visible
whole_view s bottom top = view s (counted 0 (length s.takes)) bottom top

-- what the levels of functions break, where these levels are the least and the greatest
abbrev pub ends_broken : Scopes → ℕ → ℕ → InterfaceTree → List Module → List FileViolation
ends_broken s bottom top i ms =
    in_file 0 (equations_broken (whole_view s bottom top) i.levels)
    ++ modules_broken s bottom top (whole_view s bottom top) i.levels 0 0 ms
