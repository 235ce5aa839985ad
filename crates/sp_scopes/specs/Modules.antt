-- What a module breaks by its names and headers.
use Rattle.std.specs.Prelude.{ℕ, ◌==◌, List, [], ◌++◌, Option, None, Some, nat_eq, slice_get, if◌then◌else◌}
use Rattle.std.specs.List.{flat_map}
use Rattle.std.specs.Str.{bytes_eq}
use Rattle.sp_text.specs.declared.fault.Quantity.{Quantity}
use Rattle.sp_text.specs.declared.fault.Quantity.TheVariants as quantity
use Rattle.sp_text.specs.declared.fault.Rule.TheVariants as rule
use Rattle.sp_text.specs.declared.fault.Span.{Span}
use Rattle.sp_text.specs.declared.limits.TheConstants.{MOST_DEFINITIONS, MOST_FUNCTIONS, MOST_LEVELS, MOST_MEMBERS, MOST_PARAMETERS, MOST_TYPES}
use Rattle.sp_text.specs.declared.violation.FileViolation.{FileViolation}
use Rattle.sp_text.specs.declared.violation.Violation.{Violation}
use Rattle.sp_text.specs.Violations.{breaks, exceeds, in_file}
use Rattle.sp_tree.specs.declared.expr.ExprTree.{ExprTree}
use Rattle.sp_tree.specs.declared.module.FunDecl.{FunDecl}
use Rattle.sp_tree.specs.declared.module.Header.{Header}
use Rattle.sp_tree.specs.declared.module.Module.{Module}
use Rattle.sp_tree.specs.declared.names.Ident.{Ident}
use Rattle.sp_naming.specs.declared.declaration.Declaration.{Declaration}
use Rattle.sp_naming.specs.declared.declaration.Entity.{Entity}
use Rattle.sp_naming.specs.declared.declaration.Entity.TheVariants as entity
use Rattle.sp_naming.specs.Names.{named}
use Rattle.sp_naming.specs.Numbers.{counted, numbered}
use Rattle.sp_naming.specs.Visibility.{can_be_taken, file_of, taken}
use Rattle.sp_scopes.specs.Headers.{header_broken, see_of}

-- a module whose own name isn't the one in MODULES by which it was loaded
abbrev pub own_name : Option Ident → Ident → List Violation
own_name None x = []
own_name (Some m) x = if bytes_eq m.name x.name then [] else breaks x.span rule.WrongName

-- A name that EXTERNALREFS lists from a file: unknown where that file doesn't declare it, of a wrong kind where it is a member or a
-- definition there. What it stands for is its first declaration.
abbrev pub external_rule : ℕ → Span → Option Declaration → List Violation
external_rule f p None = breaks p rule.UnknownName
external_rule f p (Some d) = if nat_eq d.file f then (if can_be_taken d.entity then [] else breaks p rule.WrongKind) else breaks p rule.UnknownName

abbrev pub name_rule : List Declaration → ℕ → Ident → List Violation
name_rule ds f x = external_rule f x.span (named ds x.name)

-- a row of EXTERNALREFS: its module's name is one of MODULES, and each name may be taken from it
abbrev pub row_broken : List Declaration → List Ident → Ident × List Ident → List Violation
row_broken ds modules row = by (file_of modules row.0.name)
  where
    by : Option ℕ → List Violation
    by None = breaks row.0.span rule.UnknownName
    by (Some f) = flat_map (name_rule ds f) row.1

abbrev pub definition_broken : (List ℕ → Option Declaration) → Header × ExprTree → List Violation
definition_broken see d = header_broken see d.0

abbrev pub function_broken : (List ℕ → Option Declaration) → FunDecl → List Violation
function_broken see g = header_broken see g.head

-- the headers of parameters, definitions and functions, by what the module sees
abbrev pub headers_broken : (List ℕ → Option Declaration) → Module → List Violation
headers_broken see m =
    flat_map (header_broken see) m.parameters
    ++ (flat_map (definition_broken see) m.definitions ++ flat_map (function_broken see) m.functions)

-- module k, counted from 0
abbrev pub module_broken : List Declaration → List Ident → ℕ → Module → List Violation
module_broken ds modules k m =
    own_name (slice_get modules k) m.name
    ++ (flat_map (row_broken ds modules) m.externals ++ headers_broken (see_of ds k (taken ds modules m.externals)) m)

-- the same in its own file
abbrev pub file_broken : List Declaration → List Ident → ℕ → Module → List FileViolation
file_broken ds modules k m = in_file (counted 1 k) (module_broken ds modules k m)

abbrev pub modules_broken : List Declaration → List Ident → List Module → List FileViolation
modules_broken ds modules ms = numbered (file_broken ds modules) 0 ms

-- the first declaration over a limit is the one whose number, from 0, is the greatest count
abbrev pub exceeds_at : ℕ → ℕ → Span → Quantity → List Violation
exceeds_at k most p q = if k == most then exceeds p q else []

abbrev pub over : Span → Entity → List Violation
over p (entity.Declared k) = exceeds_at k MOST_TYPES p quantity.Types
over p (entity.Member t k) = exceeds_at k MOST_MEMBERS p quantity.Members
over p (entity.Param k) = exceeds_at k MOST_PARAMETERS p quantity.Parameters
over p (entity.Definition k) = exceeds_at k MOST_DEFINITIONS p quantity.Definitions
over p (entity.Function k) = exceeds_at k MOST_FUNCTIONS p quantity.Functions
over p (entity.Level k) = exceeds_at k MOST_LEVELS p quantity.Levels

abbrev pub limit_broken : Declaration → List FileViolation
limit_broken d = in_file d.file (over d.span d.entity)

abbrev pub limits_broken : List Declaration → List FileViolation
limits_broken ds = flat_map limit_broken ds
