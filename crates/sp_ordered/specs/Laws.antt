-- What an interface and its modules break is one list, and so is what the order of its levels breaks.
use Rattle.std.specs.Prelude.{◌≡◌, List}
use Rattle.sp_text.specs.declared.violation.FileViolation.{FileViolation}
use Rattle.sp_text.specs.declared.violation.Violation.{Violation}
use Rattle.sp_tree.specs.declared.interface.InterfaceTree.{InterfaceTree}
use Rattle.sp_tree.specs.declared.module.Module.{Module}
use Rattle.sp_specification.specs.Broken.{AreBroken}
use Rattle.sp_specification.specs.Orders.{IsOrderJudged}

abbrev pub OrderLaw : Type 0
OrderLaw = (i : InterfaceTree) (o p : List Violation) → IsOrderJudged i o → IsOrderJudged i p → o ≡ p

abbrev pub BrokenLaw : Type 0
BrokenLaw = (i : InterfaceTree) (ms : List Module) (vs ws : List FileViolation) → AreBroken i ms vs → AreBroken i ms ws → vs ≡ ws
