-- The names that texts of values may use: of levels, and of the members that each type has in an instance. For what such texts
-- stand for.
use Rattle.std.specs.Prelude.{ℕ, ◌≤◌, Bool, List, [], ◌∷◌, length, map, Option, Some, None, is_some}
use Rattle.std.specs.List.{All, flat_map, position_from}
use Rattle.std.specs.Str.{bytes_eq}
use Rattle.sp_text.specs.declared.limits.TheConstants.{MOST_LEVELS, MOST_POPULATION}
use Rattle.sp_lattice.specs.Order.{bottom_level, top_level}
use Rattle.sp_core.specs.declared.function.TypeInfo.{TypeInfo}
use Rattle.sp_core.specs.Parts.{Parts}

-- the first place of a name in a list
abbrev pub place_of : List (List ℕ) → List ℕ → Option ℕ
place_of names x = position_from (bytes_eq x) 0 names

-- the names of the levels, the least and the greatest level, and of each declared type whether it is an enumeration and the names
-- of its members
pub record Words : Type 0 where
  pub levels : List (List ℕ)
  pub least : ℕ
  pub greatest : ℕ
  pub enumerated : List Bool
  pub members : List (List (List ℕ))

abbrev pub is_enumeration : TypeInfo → Bool
is_enumeration i = is_some i.members

-- those of a specification, whose types have these members
abbrev pub words_of : Parts → List (List (List ℕ)) → Words
words_of p members = record {
  levels = p.level_names;
  least = bottom_level p.lattice;
  greatest = top_level p.lattice;
  enumerated = map is_enumeration p.types;
  members = members;
}

-- levels and members within their limits, so that each has a number
pub record AreFew (w : Words) : Type 0 where
  pub levels : length w.levels ≤ MOST_LEVELS
  pub members : All (λ names. length names ≤ MOST_POPULATION) w.members

-- the name of a type, where it is a designator type
abbrev pub designator_name : TypeInfo → List (List ℕ)
designator_name i = by i.members
  where
    by : Option (List (List ℕ)) → List (List ℕ)
    by None = i.name ∷ []
    by (Some names) = []

-- the types whose members an instance gives
abbrev pub designator_names : List TypeInfo → List (List ℕ)
designator_names types = flat_map designator_name types
