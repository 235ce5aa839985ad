-- All that an interface and its modules break, by passes: a later pass counts where the earlier ones find nothing.
use Rattle.std.specs.Prelude.{◌≡◌, ℕ, List, [], ◌∷◌}
use Rattle.sp_text.specs.declared.violation.FileViolation.{FileViolation}
use Rattle.sp_text.specs.declared.violation.Violation.{Violation}
use Rattle.sp_text.specs.Firsts.{behind}
use Rattle.sp_tree.specs.declared.interface.InterfaceTree.{InterfaceTree}
use Rattle.sp_tree.specs.declared.module.Module.{Module}
use Rattle.sp_scopes.specs.Scopes.{scopes_of}
use Rattle.sp_order.specs.Orders.{AreEnds}
use Rattle.sp_specification.specs.Bodies.{bodies_broken}
use Rattle.sp_specification.specs.Ends.{ends_broken}
use Rattle.sp_specification.specs.Orders.{IsOrderJudged, headers_broken}

-- what the second and the third pass find
abbrev pub rest_broken : InterfaceTree → List Module → ℕ → ℕ → List FileViolation
rest_broken i ms bottom top = behind (bodies_broken (scopes_of i ms) bottom top ms) (ends_broken (scopes_of i ms) bottom top i ms)

-- What an interface and its modules break: names and headers and the order of the levels; where these break nothing, and so the order
-- has a least and a greatest level, the texts of modules, and then the levels of functions.
pub data AreBroken (i : InterfaceTree) (ms : List Module) : List FileViolation → Type 0 where
  Headers : (o : List Violation) (v : FileViolation) (vs : List FileViolation) → IsOrderJudged i o → headers_broken i ms o ≡ v ∷ vs → AreBroken i ms (v ∷ vs)
  Rest : (bottom top : ℕ) → IsOrderJudged i [] → headers_broken i ms [] ≡ [] → AreEnds (scopes_of i ms) bottom top → AreBroken i ms (rest_broken i ms bottom top)
