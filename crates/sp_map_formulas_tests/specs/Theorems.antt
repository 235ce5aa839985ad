-- What the worked mappings show, each stated here and proved at a function of `theorems`.
use Rattle.std.specs.Prelude.{◌≡◌}
use Rattle.sp_lattice.specs.Order.{IsLatticeOrder, Order}
use Rattle.sp_core.specs.Mappings.{IsMappingTo}
use Rattle.sp_core.specs.WellFormed.{IsWellFormed}
use Rattle.sp_examples.specs.Common.{low}
use Rattle.sp_map_formulas.specs.Rows.{map_formulas}
use Rattle.sp_map_formulas_tests.specs.Lists.{clean_list, down_list, guarded_list, low_list, nested_list}
use Rattle.sp_map_formulas_tests.specs.Worked.{class, clean, down, guarded, nested, number_mapping, one_number, store}

-- what a row reads is bounded by the level of the upper place, whichever that is
abbrev pub RowsAreBounded : Type 0
RowsAreBounded = (o : Order) → (map_formulas (store o) (down (class 0)) ≡ down_list) × (map_formulas (store o) (down low) ≡ low_list)

-- the conditions on the way to a reference are assumed
abbrev pub PathsAreAssumed : Type 0
PathsAreAssumed = (o : Order) → map_formulas (store o) guarded ≡ guarded_list

-- a reference in arguments has a formula too, which comes first
abbrev pub ArgumentsComeFirst : Type 0
ArgumentsComeFirst = (o : Order) → map_formulas (store o) nested ≡ nested_list

-- a quantifier's variable stands behind the row's formals
abbrev pub BoundVariablesFollow : Type 0
BoundVariablesFollow = (o : Order) → map_formulas (store o) clean ≡ clean_list

-- the smallest specification is well-formed, and the smallest mapping is one to it
abbrev pub NumberIsMapped : Type 0
NumberIsMapped = (o : Order) → IsLatticeOrder o → o.count ≡ 2 → IsWellFormed (one_number o) × IsMappingTo (one_number o) number_mapping
