-- What headers break, and what they declare.
use Rattle.std.specs.Prelude.{ℕ, List, [], ◌++◌, Bool, true, false, Option, None, Some, map, slice_get, if◌then◌else◌}
use Rattle.std.specs.List.{flat_map}
use Rattle.sp_text.specs.declared.fault.Quantity.{Quantity}
use Rattle.sp_text.specs.declared.fault.Quantity.TheVariants as quantity
use Rattle.sp_text.specs.declared.fault.Rule.TheVariants as rule
use Rattle.sp_text.specs.declared.fault.Span.{Span}
use Rattle.sp_text.specs.declared.limits.TheConstants.{MOST_ARGUMENTS}
use Rattle.sp_text.specs.declared.violation.Violation.{Violation}
use Rattle.sp_text.specs.Violations.{breaks, exceeds}
use Rattle.sp_tree.specs.declared.module.Header.{Header}
use Rattle.sp_tree.specs.declared.names.FormalTree.{FormalTree}
use Rattle.sp_tree.specs.declared.names.Ident.{Ident}
use Rattle.sp_tree.specs.declared.names.TypeTree.{TypeTree}
use Rattle.sp_tree.specs.declared.names.TypeTree.TheVariants as written
use Rattle.sp_naming.specs.declared.declaration.Declaration.{Declaration}
use Rattle.sp_naming.specs.declared.declaration.Entity.{Entity}
use Rattle.sp_naming.specs.declared.declaration.Entity.TheVariants as entity
use Rattle.sp_naming.specs.Names.{named, repeated_names}
use Rattle.sp_naming.specs.Visibility.{seen}

-- A name of which an entity of some sort is asked: what it stands for isn't visible, or isn't of that sort. The place is the
-- name's.
abbrev pub asked : (Entity → Bool) → Span → Option Declaration → List Violation
asked is p None = breaks p rule.UnknownName
asked is p (Some d) = if is d.entity then [] else breaks p rule.WrongKind

abbrev pub is_type : Entity → Bool
is_type (entity.Declared k) = true
is_type e = false

-- what module k, which takes these names, sees
abbrev pub see_of : List Declaration → ℕ → List (List ℕ) → List ℕ → Option Declaration
see_of ds k names x = seen k names (named ds x)

-- a type, where what a name stands for is seen by `see`
abbrev pub type_rule : (List ℕ → Option Declaration) → TypeTree → List Violation
type_rule see (written.Boolean p) = []
type_rule see (written.Integer p) = []
type_rule see (written.Level p) = []
type_rule see (written.Named x) = asked is_type x.span (see x.name)

-- the first of the names over the greatest number
abbrev pub past : ℕ → Quantity → List Ident → List Violation
past most q xs = by (slice_get xs most)
  where
    by : Option Ident → List Violation
    by None = []
    by (Some x) = exceeds x.span q

abbrev pub names_of : List FormalTree → List Ident
names_of formals = map (λ f. f.name) formals

abbrev pub formal_type : (List ℕ → Option Declaration) → FormalTree → List Violation
formal_type see f = type_rule see f.ty

-- formals: each one's type, a name that stands twice, and more than eight
abbrev pub formals_broken : (List ℕ → Option Declaration) → List FormalTree → List Violation
formals_broken see formals =
    flat_map (formal_type see) formals ++ (repeated_names [] (names_of formals) ++ past MOST_ARGUMENTS quantity.Arguments (names_of formals))

abbrev pub result_broken : (List ℕ → Option Declaration) → Option TypeTree → List Violation
result_broken see None = []
result_broken see (Some t) = type_rule see t

-- a header: its formals and the type of its value; the name of a result breaks nothing
abbrev pub header_broken : (List ℕ → Option Declaration) → Header → List Violation
header_broken see h = formals_broken see h.formals ++ result_broken see h.ty
