-- The members that an instance's text gives the types, and what its populations break.
use Rattle.std.specs.Prelude.{ℕ, List, [], ◌++◌, map, Option, Some, None, slice_get}
use Rattle.std.specs.List.{flat_map}
use Rattle.sp_text.specs.declared.fault.Quantity.TheVariants as quantity
use Rattle.sp_text.specs.declared.fault.Rule.TheVariants as rule
use Rattle.sp_text.specs.declared.fault.Span.{Span}
use Rattle.sp_text.specs.declared.limits.TheConstants.{MOST_POPULATION}
use Rattle.sp_text.specs.declared.violation.Violation.{Violation}
use Rattle.sp_text.specs.Violations.{breaks}
use Rattle.sp_tree.specs.declared.names.Ident.{Ident}
use Rattle.sp_naming.specs.Names.{repeated_names}
use Rattle.sp_core.specs.declared.function.TypeInfo.{TypeInfo}
use Rattle.sp_instance.specs.Heads.{item_named, names_in, over}

-- a population: the name of a type, and its members
abbrev pub population_head : Ident × List Ident → Ident
population_head r = r.0

abbrev pub population_named : List (Ident × List Ident) → List ℕ → Option (Ident × List Ident)
population_named rows x = item_named population_head rows x

abbrev pub members_given : Option (Ident × List Ident) → List (List ℕ)
members_given None = []
members_given (Some r) = names_in r.1

-- an enumeration has its members; a designator type those of the first population of its name
abbrev pub type_members : List (Ident × List Ident) → TypeInfo → List (List ℕ)
type_members rows i = by i.members
  where
    by : Option (List (List ℕ)) → List (List ℕ)
    by (Some names) = names
    by None = members_given (population_named rows i.name)

-- the members of all types
abbrev pub members_of_types : List (Ident × List Ident) → List TypeInfo → List (List (List ℕ))
members_of_types rows types = map (type_members rows) types

-- no member stands twice in a population, and there are at most 64; where there is no population, that is told at place p
abbrev pub population_broken : Span → Option (Ident × List Ident) → List Violation
population_broken p None = breaks p rule.NoPopulation
population_broken p (Some r) = repeated_names [] r.1 ++ over quantity.Population (slice_get r.1 MOST_POPULATION)

abbrev pub type_broken : Span → List (Ident × List Ident) → TypeInfo → List Violation
type_broken p rows i = by i.members
  where
    by : Option (List (List ℕ)) → List Violation
    by (Some names) = []
    by None = population_broken p (population_named rows i.name)

abbrev pub types_broken : Span → List (Ident × List Ident) → List TypeInfo → List Violation
types_broken p rows types = flat_map (type_broken p rows) types
