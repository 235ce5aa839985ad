-- What of a mapping's text breaks nothing is a mapping. The law is proved at the function of its name.
use Rattle.std.specs.Prelude.{◌≡◌, List, []}
use Rattle.std.specs.List.{All}
use Rattle.sp_tree.specs.declared.interface.MappingTree.{MappingTree}
use Rattle.sp_core.specs.Mappings.{IsMappingTo}
use Rattle.sp_core.specs.Parts.{Parts}
use Rattle.sp_core.specs.WellFormed.{IsWellFormed}
use Rattle.sp_scopes.specs.declared.scopes.Scopes.{Scopes}
use Rattle.sp_specification.specs.Numbers.{IsDefinitionNumbered, IsEquationNumbered}
use Rattle.sp_mapping_rules.specs.Lower.{AreNamesOf}
use Rattle.sp_mapping_rules.specs.Mappings.{mapping_broken, mapping_of}
use Rattle.sp_mapping_rules.specs.Upper.{IsMappingFrom}

-- the numbers in the texts of definitions and of a mapping are in range, as those of every text are
pub record AreNumbered (s : Scopes) (t : MappingTree) : Type 0 where
  pub definitions : All IsDefinitionNumbered s.definitions
  pub parameters : All IsEquationNumbered t.parameters
  pub functions : All IsEquationNumbered t.functions

-- The text of a mapping between well-formed specifications, with all names of the lower one, stands for a mapping to the lower one and
-- from the upper one, where it breaks nothing.
abbrev pub MappingLaw : Type 0
MappingLaw = (u p : Parts) (s : Scopes) (t : MappingTree) → IsWellFormed u → IsWellFormed p → AreNamesOf p s → AreNumbered s t →
    mapping_broken u p s t ≡ [] → IsMappingTo p (mapping_of u p s t) × IsMappingFrom u p (mapping_of u p s t)
