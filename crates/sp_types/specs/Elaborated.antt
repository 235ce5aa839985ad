-- What elaboration answers, and what it knows after the first pass.
use Rattle.std.specs.Prelude.{◌≡◌, List, []}
use Rattle.sp_lattice.specs.Order.{IsLatticeOrder, IsOrderOf, bottom_level, top_level}
use Rattle.sp_tree.specs.declared.interface.InterfaceTree.{InterfaceTree}
use Rattle.sp_tree.specs.declared.module.Module.{Module}
use Rattle.sp_core.specs.Parts.{Parts}
use Rattle.sp_scopes.specs.declared.scopes.Scopes.{Scopes}
use Rattle.sp_scopes.specs.Interfaces.{scopes_broken}
use Rattle.sp_scopes.specs.Scopes.{scopes_of}
use Rattle.sp_order.specs.Orders.{AreEnds, HasLevels, IsLower, level_count}
use Rattle.sp_ordered.specs.declared.ordered.Ordered.{Ordered}
use Rattle.sp_specification.specs.Meaning.{IsSpecOf}

-- the specification that the trees stand for, and all that is known of their names
pub record IsElaborated (i : InterfaceTree) (ms : List Module) (r : Parts × Scopes) : Type 0 where
  pub spec : IsSpecOf i ms r.0
  pub scopes : r.1 ≡ scopes_of i ms

-- names and headers break nothing, and this is the lattice of the levels, with its least and its greatest
pub record IsOrdered (i : InterfaceTree) (ms : List Module) (o : Ordered) : Type 0 where
  pub nothing : scopes_broken i ms ≡ []
  pub scopes : o.scopes ≡ scopes_of i ms
  pub order : IsOrderOf (level_count o.scopes) (IsLower o.scopes.order) o.lattice
  pub lattice : IsLatticeOrder o.lattice
  pub levels : HasLevels o.scopes
  pub ends : AreEnds o.scopes (bottom_level o.lattice) (top_level o.lattice)
