-- The rows of a mapping that are over formals: of an upper parameter, or of an upper V-function.
use Rattle.std.specs.Prelude.{ℕ, List, [], ◌∷◌, ◌++◌, map, length, Option, Some, None, nat_eq, if◌then◌else◌}
use Rattle.sp_text.specs.declared.fault.Rule.TheVariants as rule
use Rattle.sp_text.specs.declared.fault.Span.{Span}
use Rattle.sp_text.specs.declared.violation.Violation.{Violation}
use Rattle.sp_text.specs.Firsts.{behind}
use Rattle.sp_text.specs.Violations.{breaks}
use Rattle.sp_tree.specs.declared.interface.Equation.{Equation}
use Rattle.sp_tree.specs.declared.names.Ident.{Ident}
use Rattle.sp_core.specs.declared.function.Formal.{Formal}
use Rattle.sp_naming.specs.Names.{repeated_names}
use Rattle.sp_scopes.specs.declared.heads.Local.{Local}
use Rattle.sp_functions.specs.Equations.{equation_name}
use Rattle.sp_instance.specs.Heads.{kind_broken}
use Rattle.sp_mapping_rules.specs.Levels.{type_over}

abbrev pub row_heads : List Equation → List Ident
row_heads rows = map equation_name rows

-- the names of a row with the types of the upper formals, translated; as many as there are of both
abbrev pub with_type : List ℕ → Ident → Formal → Local
with_type ts x f = record { name = x.name; ty = type_over ts f.ty }

abbrev pub with_types : List ℕ → List Ident → List Formal → List Local
with_types ts [] fs = []
with_types ts (x ∷ xs) [] = []
with_types ts (x ∷ xs) (f ∷ fs) = with_type ts x f ∷ with_types ts xs fs

-- as many names as there are upper formals, where their number is known; the place is the row's name
abbrev pub count_broken : Span → Option ℕ → ℕ → List Violation
count_broken p None n = []
count_broken p (Some k) n = if nat_eq k n then [] else breaks p rule.WrongCount

-- What a row breaks before its `=`: its name is one of those that are asked, its formals have different names, and are as many as the
-- upper ones.
abbrev pub row_head_broken : List (List ℕ) → List (List ℕ) → Option ℕ → Equation → List Violation
row_head_broken asked all n r =
    behind (kind_broken asked all r.name ++ repeated_names [] r.formals) (count_broken r.name.span n (length r.formals))
