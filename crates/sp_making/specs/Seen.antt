-- What modules see, by what the interface sees; and what the levels of functions break there.
use Rattle.std.specs.Prelude.{ℕ, List, [], ◌∷◌, ◌++◌, length}
use Rattle.sp_text.specs.declared.violation.FileViolation.{FileViolation}
use Rattle.sp_text.specs.Violations.{in_file}
use Rattle.sp_tree.specs.declared.interface.Equation.{Equation}
use Rattle.sp_tree.specs.declared.module.Module.{Module}
use Rattle.sp_naming.specs.Numbers.{after, counted}
use Rattle.sp_judge.specs.Visible.{Visible}
use Rattle.sp_functions.specs.Equations.{equations_broken}
use Rattle.sp_specification.specs.Ends.{levels_broken}

-- what module k sees, where the interface sees t
abbrev pub at_module : Visible → ℕ → Visible
at_module t k = record { names = t.names; number = k; cores = t.cores; bottom = t.bottom; top = t.top }

-- what the levels of functions break in modules of which the first has number k and its first function number g
abbrev pub modules_broken : Visible → List Equation → ℕ → ℕ → List Module → List FileViolation
modules_broken t qs k g [] = []
modules_broken t qs k g (m ∷ ms) =
    in_file (counted 1 k) (levels_broken (at_module t k) t qs g m.functions)
    ++ modules_broken t qs (after k) (counted g (length m.functions)) ms

-- what the level equations and the levels of functions break, where the interface sees t
abbrev pub ends_broken : Visible → List Equation → List Module → List FileViolation
ends_broken t qs ms = in_file 0 (equations_broken t qs) ++ modules_broken t qs 0 0 ms
