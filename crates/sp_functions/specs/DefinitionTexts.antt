-- What the definitions of an interface break.
use Rattle.std.specs.Prelude.{ℕ, ◌+◌, List, [], ◌∷◌, ◌++◌, take}
use Rattle.sp_text.specs.declared.violation.FileViolation.{FileViolation}
use Rattle.sp_text.specs.declared.violation.Violation.{Violation}
use Rattle.sp_text.specs.Violations.{in_file}
use Rattle.sp_plain.specs.Text.{text}
use Rattle.sp_naming.specs.Numbers.{counted}
use Rattle.sp_scopes.specs.declared.lent.Definition.{Definition}
use Rattle.sp_judge.specs.declared.scope.Site.TheVariants as site
use Rattle.sp_judge.specs.Names.{sort_type}
use Rattle.sp_judge.specs.Visible.{Visible}
use Rattle.sp_judge.specs.Broken.{whole_broken}

-- what definition k sees: in its own module, and of the definitions those before it
abbrev pub before : Visible → ℕ → Definition → Visible
before s k d = record { names = s.names; number = d.module_number; cores = take k s.cores; bottom = s.bottom; top = s.top }

-- definition k by itself: it has its type, and calls none from its own number on
abbrev pub definition_broken : Visible → ℕ → Definition → List Violation
definition_broken s k d = whole_broken (before s k d) site.Outside d.head.formals (sort_type d.head.sort) (text d.text)

-- definitions, of which the first has number k, each in its module's file
abbrev pub definitions_broken : Visible → ℕ → List Definition → List FileViolation
definitions_broken s k [] = []
definitions_broken s k (d ∷ ds) = in_file (counted 1 d.module_number) (definition_broken s k d) ++ definitions_broken s (k + 1) ds
