-- What stands under a name in an instance or a script: found by its name, whose kind is asked. For populations, tables and calls.
use Rattle.std.specs.Prelude.{ℕ, List, [], ◌++◌, map, Option, Some, None, if◌then◌else◌}
use Rattle.std.specs.List.{find, flat_map}
use Rattle.std.specs.Str.{bytes_eq}
use Rattle.sp_text.specs.declared.fault.Quantity.{Quantity}
use Rattle.sp_text.specs.declared.fault.Rule.TheVariants as rule
use Rattle.sp_text.specs.declared.violation.Violation.{Violation}
use Rattle.sp_text.specs.Violations.{breaks, exceeds}
use Rattle.sp_tree.specs.declared.names.Ident.{Ident}
use Rattle.sp_naming.specs.Names.{is_among, repeated_names}

abbrev pub ident_name : Ident → List ℕ
ident_name x = x.name

abbrev pub names_in : List Ident → List (List ℕ)
names_in xs = map ident_name xs

-- the first item that stands under the name
abbrev pub item_named : {X : Type 0} → (X → Ident) → List X → List ℕ → Option X
item_named head xs x = find (λ y. bytes_eq x (head y).name) xs

-- a name that isn't of the kind that is asked: of another kind, where it is a name of the specification
abbrev pub unfit : List (List ℕ) → Ident → List Violation
unfit all x = breaks x.span (if is_among all x.name then rule.WrongKind else rule.UnknownName)

-- the names of the kind that is asked are `asked`
abbrev pub kind_broken : List (List ℕ) → List (List ℕ) → Ident → List Violation
kind_broken asked all x = if is_among asked x.name then [] else unfit all x

abbrev pub kinds_broken : List (List ℕ) → List (List ℕ) → List Ident → List Violation
kinds_broken asked all xs = flat_map (kind_broken asked all) xs

-- names that things of a kind stand under: each is of that kind, and none stands twice, whatever stands under it
abbrev pub heads_broken : List (List ℕ) → List (List ℕ) → List Ident → List Violation
heads_broken asked all xs = kinds_broken asked all xs ++ repeated_names [] xs

-- the first name over a limit, where there is one
abbrev pub over : Quantity → Option Ident → List Violation
over q None = []
over q (Some x) = exceeds x.span q
