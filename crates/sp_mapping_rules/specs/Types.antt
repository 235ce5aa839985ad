-- The types of a mapping: each declared type of the upper specification has a lower one of the same sort.
use Rattle.std.specs.Prelude.{ℕ, Bool, true, false, List, [], ◌++◌, map, length, Option, Some, None, nat_eq, slice_get, if◌then◌else◌}
use Rattle.std.specs.List.{flat_map}
use Rattle.sp_text.specs.declared.fault.Rule.TheVariants as rule
use Rattle.sp_text.specs.declared.fault.Span.{Span}
use Rattle.sp_text.specs.declared.violation.Violation.{Violation}
use Rattle.sp_text.specs.Firsts.{behind}
use Rattle.sp_text.specs.Violations.{breaks}
use Rattle.sp_tree.specs.declared.names.Ident.{Ident}
use Rattle.sp_core.specs.declared.function.TypeInfo.{TypeInfo}
use Rattle.sp_core.specs.Parts.{Parts}
use Rattle.sp_core.specs.WellFormed.{names_of}
use Rattle.sp_naming.specs.declared.declaration.Entity.{Entity}
use Rattle.sp_naming.specs.declared.declaration.Entity.TheVariants as entity
use Rattle.sp_naming.specs.Names.{is_among, repeated_names}
use Rattle.sp_judge.specs.Visible.{Visible, see}
use Rattle.sp_instance.specs.Heads.{kind_broken, names_in}
use Rattle.sp_instance.specs.Words.{place_of}

-- a row: the name of an upper type, and that of a lower one
abbrev pub TypeRow : Type 0
TypeRow = Ident × Ident

abbrev pub type_head : TypeRow → Ident
type_head r = r.0

abbrev pub type_heads : List TypeRow → List Ident
type_heads rows = map type_head rows

abbrev pub type_name : TypeInfo → List ℕ
type_name i = i.name

-- the item at a place, if any
abbrev pub at_place : {X : Type 0} → List X → Option ℕ → Option X
at_place xs None = None
at_place xs (Some k) = slice_get xs k

-- the first item that stands under a name
abbrev pub item_at : {X : Type 0} → (X → Ident) → List X → List ℕ → Option X
item_at head xs x = at_place xs (place_of (names_in (map head xs)) x)

-- the upper type that a row is of
abbrev pub upper_type : List TypeInfo → TypeRow → Option TypeInfo
upper_type types r = at_place types (place_of (map type_name types) r.0.name)

-- the number of a declared type
abbrev pub declared_number : Option Entity → Option ℕ
declared_number (Some (entity.Declared k)) = Some k
declared_number e = None

-- the number of the lower type that a row names, and the type itself
abbrev pub lower_number : Visible → TypeRow → Option ℕ
lower_number s r = declared_number (see s r.1.name)

abbrev pub lower_type : Visible → List TypeInfo → TypeRow → Option TypeInfo
lower_type s types r = at_place types (lower_number s r)

-- the lower name is that of a declared type
abbrev pub type_rule : Span → Option Entity → List Violation
type_rule p None = breaks p rule.UnknownName
type_rule p (Some (entity.Declared k)) = []
type_rule p (Some e) = breaks p rule.WrongKind

-- both are designator types, or enumerations of as many members
abbrev pub same_members : Option (List (List ℕ)) → Option (List (List ℕ)) → Bool
same_members None None = true
same_members None (Some ys) = false
same_members (Some xs) None = false
same_members (Some xs) (Some ys) = nat_eq (length xs) (length ys)

abbrev pub same_sort : TypeInfo → TypeInfo → Bool
same_sort a b = same_members a.members b.members

-- a lower type of another sort, or with another number of members, is told at its name
abbrev pub sort_broken : Span → Option TypeInfo → Option TypeInfo → List Violation
sort_broken p None b = []
sort_broken p (Some a) None = []
sort_broken p (Some a) (Some b) = if same_sort a b then [] else breaks p rule.WrongKind

-- a row by itself: its two names, and their sorts
abbrev pub type_row_broken : Parts → Parts → Visible → TypeRow → List Violation
type_row_broken u p s r =
    behind (kind_broken (map type_name u.types) (names_of u) r.0 ++ type_rule r.1.span (see s r.1.name))
    (sort_broken r.1.span (upper_type u.types r) (lower_type s p.types r))

-- all rows; an upper type has at most one
abbrev pub types_broken : Parts → Parts → Visible → List TypeRow → List Violation
types_broken u p s rows = repeated_names [] (type_heads rows) ++ flat_map (type_row_broken u p s) rows

-- a name that no row is of, which is told at place p
abbrev pub missing : Span → List (List ℕ) → List ℕ → List Violation
missing p names x = if is_among names x then [] else breaks p rule.NoMapping

abbrev pub type_missing : Span → List TypeRow → TypeInfo → List Violation
type_missing p rows i = missing p (names_in (type_heads rows)) i.name

abbrev pub types_missing : Span → List TypeRow → List TypeInfo → List Violation
types_missing p rows types = flat_map (type_missing p rows) types

abbrev pub number_or_none : Option ℕ → ℕ
number_or_none None = 0
number_or_none (Some k) = k

abbrev pub number_given : Visible → Option TypeRow → ℕ
number_given s None = 0
number_given s (Some r) = number_or_none (lower_number s r)

-- the number of the lower type that an upper type becomes, by the first row of its name
abbrev pub type_number : Visible → List TypeRow → TypeInfo → ℕ
type_number s rows i = number_given s (item_at type_head rows i.name)

abbrev pub type_numbers : Visible → List TypeRow → List TypeInfo → List ℕ
type_numbers s rows types = map (type_number s rows) types
