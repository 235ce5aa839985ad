-- What declared names stand for, by the list of the declarations alone, and which of them stand twice.
use Rattle.std.specs.Prelude.{◌≡◌, ℕ, List, [], ◌∷◌, ◌++◌, Bool, Option, map, if◌then◌else◌}
use Rattle.std.specs.HashMap.{HashMap, get_by}
use Rattle.std.specs.List.{find, list_any, position_from}
use Rattle.std.specs.Str.{bytes_eq}
use Rattle.std.specs.declared.vec.Vec.{Vec}
use Rattle.sp_text.specs.declared.fault.Rule.TheVariants as rule
use Rattle.sp_text.specs.declared.fault.Span.{Span}
use Rattle.sp_text.specs.declared.violation.FileViolation.{FileViolation}
use Rattle.sp_text.specs.declared.violation.Violation.{Violation}
use Rattle.sp_text.specs.Violations.{breaks, in_file}
use Rattle.sp_tree.specs.declared.names.Ident.{Ident}
use Rattle.sp_naming.specs.declared.declaration.Declaration.{Declaration}

-- one of the names
abbrev pub is_among : List (List ℕ) → List ℕ → Bool
is_among names x = list_any (bytes_eq x) names

abbrev pub name_of : Declaration → List ℕ
name_of d = d.name

-- what a name stands for: the first declaration that has it
abbrev pub named : List Declaration → List ℕ → Option Declaration
named ds x = find (λ d. bytes_eq x d.name) ds

-- a name that is known already breaks a rule where it stands again
abbrev pub repeat_rule : Bool → Span → List Violation
repeat_rule known p = if known then breaks p rule.TwiceDeclared else []

-- the declarations whose name an earlier one has, or one of those before
abbrev pub repeated : List Declaration → List Declaration → List FileViolation
repeated before [] = []
repeated before (d ∷ ds) =
    in_file d.file (repeat_rule (is_among (map name_of before) d.name) d.span) ++ repeated (before ++ d ∷ []) ds

-- the names that an earlier one of the list, or one of those before, is; each at its place
abbrev pub repeated_names : List (List ℕ) → List Ident → List Violation
repeated_names before [] = []
repeated_names before (x ∷ xs) = repeat_rule (is_among before x.name) x.span ++ repeated_names (before ++ x.name ∷ []) xs

-- what an index from names to numbers has at a name
abbrev pub at_name : {Y S : Type 0} → HashMap (Vec ℕ Y) ℕ S → List ℕ → Option ℕ
at_name index x = get_by (λ key. bytes_eq x key.items) index

-- an index has each name's first place in the list, and no other name
abbrev pub IsIndex : List (List ℕ) → (List ℕ → Option ℕ) → Type 0
IsIndex names got = (x : List ℕ) → got x ≡ position_from (bytes_eq x) 0 names
