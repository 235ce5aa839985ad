-- The names that the rows of a mapping are of. For the calls of this crate.
use Rattle.std.specs.Prelude.{◌≡◌, map}
use Rattle.sp_tree.specs.declared.interface.MappingTree.{MappingTree}
use Rattle.sp_functions.specs.Equations.{equation_name}
use Rattle.sp_instance.specs.Heads.{names_in}
use Rattle.sp_mapping_rules.specs.Types.{type_head}
use Rattle.sp_mapping.specs.declared.judging.Heads.{Heads}

pub record AreHeads (t : MappingTree) (h : Heads) : Type 0 where
  pub types : h.types ≡ names_in (map type_head t.types)
  pub parameters : h.parameters ≡ names_in (map equation_name t.parameters)
  pub functions : h.functions ≡ names_in (map equation_name t.functions)
