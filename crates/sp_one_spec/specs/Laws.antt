-- An interface with its modules stands for one specification at most. For those who compare what two texts stand for, or what one text
-- is said to.
use Rattle.std.specs.Prelude.{◌≡◌, List}
use Rattle.sp_lattice.specs.Order.{IsLatticeOrder}
use Rattle.sp_tree.specs.declared.interface.InterfaceTree.{InterfaceTree}
use Rattle.sp_tree.specs.declared.module.Module.{Module}
use Rattle.sp_core.specs.Parts.{Parts}
use Rattle.sp_scopes.specs.declared.scopes.Scopes.{Scopes}
use Rattle.sp_scopes.specs.Scopes.{scopes_of}
use Rattle.sp_specification.specs.Meaning.{IsSpecOf}

-- two specifications of the same trees, whose lattices are lattices, are one
abbrev pub OneSpecLaw : Type 0
OneSpecLaw = (i : InterfaceTree) (ms : List Module) (p q : Parts) → IsSpecOf i ms p → IsSpecOf i ms q → IsLatticeOrder p.lattice → IsLatticeOrder q.lattice → p ≡ q

-- the specification that the trees stand for, with all that is known of their names
pub record IsAnswerOf (i : InterfaceTree) (ms : List Module) (r : Parts × Scopes) : Type 0 where
  pub spec : IsSpecOf i ms r.0
  pub lattice : IsLatticeOrder r.0.lattice
  pub scopes : r.1 ≡ scopes_of i ms

-- the two are one pair
abbrev pub OneAnswerLaw : Type 0
OneAnswerLaw = (i : InterfaceTree) (ms : List Module) (r t : Parts × Scopes) → IsAnswerOf i ms r → IsAnswerOf i ms t → r ≡ t
