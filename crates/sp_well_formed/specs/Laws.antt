-- The laws of whole specifications, each proved at the function of its name.
use Rattle.std.specs.Prelude.{◌≡◌, ℕ, List, []}
use Rattle.std.specs.List.{All}
use Rattle.sp_tree.specs.declared.interface.InterfaceTree.{InterfaceTree}
use Rattle.sp_tree.specs.declared.module.Module.{Module}
use Rattle.sp_lattice.specs.Order.{IsLatticeOrder}
use Rattle.sp_core.specs.Parts.{Parts, signature}
use Rattle.sp_core.specs.WellFormed.{IsWellFormed}
use Rattle.sp_scopes.specs.Interfaces.{scopes_broken}
use Rattle.sp_scopes.specs.Scopes.{scopes_of}
use Rattle.sp_elaborate.specs.Views.{view}
use Rattle.sp_functions.specs.Laws.{IsSeenBy}
use Rattle.sp_order.specs.Orders.{AreEnds, HasLevels}
use Rattle.sp_specification.specs.Broken.{rest_broken}
use Rattle.sp_specification.specs.Meaning.{IsMeant}
use Rattle.sp_specification.specs.Numbers.{AreAllNumbered, IsDefinitionNumbered}

-- What an interface and its modules mean is well-formed, where they break nothing: neither names and headers, nor texts and levels. The
-- lattice is one, and the numbers in the texts are in range, as those of every text are.
abbrev pub WellFormedLaw : Type 0
WellFormedLaw = (i : InterfaceTree) (ms : List Module) (bottom top : ℕ) (p : Parts) → scopes_broken i ms ≡ [] → HasLevels (scopes_of i ms) →
    AreEnds (scopes_of i ms) bottom top → IsLatticeOrder p.lattice → AreAllNumbered (scopes_of i ms).definitions i.levels ms →
    rest_broken i ms bottom top ≡ [] → IsMeant (scopes_of i ms) bottom top i ms p → IsWellFormed p

-- What each module sees, and the interface, whose number comes after theirs, is that of the specification's signature, and no definition
-- reads a new value.
abbrev pub SeenLaw : Type 0
SeenLaw = (i : InterfaceTree) (ms : List Module) (bottom top : ℕ) (p : Parts) → scopes_broken i ms ≡ [] → HasLevels (scopes_of i ms) →
    AreEnds (scopes_of i ms) bottom top → All IsDefinitionNumbered (scopes_of i ms).definitions →
    rest_broken i ms bottom top ≡ [] → IsMeant (scopes_of i ms) bottom top i ms p → (k : ℕ) → IsSeenBy (signature p) (view (scopes_of i ms) k bottom top)
