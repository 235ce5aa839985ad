-- What is told of the order of an interface's levels. For the calls of this crate.
use Rattle.std.specs.Prelude.{◌≡◌, []}
use Rattle.sp_lattice.specs.Order.{Order, IsLatticeOrder, IsOrderOf}
use Rattle.sp_tree.specs.declared.interface.InterfaceTree.{InterfaceTree}
use Rattle.sp_scopes.specs.declared.scopes.Scopes.{Scopes}
use Rattle.sp_scopes.specs.Interfaces.{scopes_broken}
use Rattle.sp_scopes.specs.Scopes.{scopes_of}
use Rattle.sp_order.specs.Orders.{HasLevels, IsFlaw, IsLower, KeepsLattice, level_count}
use Rattle.sp_ordered.specs.declared.judging.Judgement.{Judgement}
use Rattle.sp_ordered.specs.declared.judging.Judgement.TheVariants as judgement
use Rattle.sp_specification.specs.Orders.{alone}

-- o is the lattice of the levels
pub record IsLatticeOf (s : Scopes) (o : Order) : Type 0 where
  pub levels : HasLevels s
  pub order : IsOrderOf (level_count s) (IsLower s.order) o
  pub lattice : IsLatticeOrder o
  pub kept : KeepsLattice s

-- what is told of levels whose names break nothing
abbrev pub IsToldOf : Scopes → Judgement → Type 0
IsToldOf s (judgement.Kept o) = IsLatticeOf s o
IsToldOf s (judgement.Flawed r) = IsFlaw (level_count s) (IsLower s.order) r
IsToldOf s judgement.Unjudged = ⊥

-- the lattice by itself breaks nothing, and this is told of its levels; or it breaks something
abbrev pub IsTold : InterfaceTree → Judgement → Type 0
IsTold i judgement.Unjudged = scopes_broken (alone i) [] ≡ [] → ⊥
IsTold i j = (scopes_broken (alone i) [] ≡ []) × IsToldOf (scopes_of (alone i) []) j
