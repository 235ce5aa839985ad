-- The names of an elaborated interface are those of its specification.
use Rattle.std.proofs.Common.{◌≡◌, ◌≢◌, List, Result, Ok, Err, subst}
use Rattle.std.specs.Prelude.{IfOk}
use Rattle.sp_text.specs.declared.fault.SpecFault.{SpecFault}
use Rattle.sp_text.specs.declared.fault.TextFault.TheVariants as fault
use Rattle.sp_text.specs.declared.violation.FileViolation.{FileViolation}
use Rattle.sp_text.specs.Violations.{JudgesFiles}
use Rattle.sp_tree.specs.declared.interface.InterfaceTree.{InterfaceTree}
use Rattle.sp_tree.specs.declared.module.Module.{Module}
use Rattle.sp_core.specs.Parts.{Parts}
use Rattle.sp_scopes.specs.declared.scopes.Scopes.{Scopes}
use Rattle.sp_specification.specs.Broken.{AreBroken}
use Rattle.sp_types.specs.Elaborated.{IsElaborated}
use Rattle.sp_mapping_rules.specs.Lower.{AreNamesOf}

pub are_names : (i : InterfaceTree) (ms : List Module) (r : Result (Parts × Scopes) SpecFault)
    → (((f : SpecFault) → r ≡ Err f → f.fault ≢ fault.Memory) → (vs : List FileViolation) × AreBroken i ms vs)
    → ((vs : List FileViolation) → AreBroken i ms vs → JudgesFiles vs (IsElaborated i ms) r)
    → IfOk r (λ x. AreNamesOf x.0 x.1)
are_names i ms (Ok x) found judges =
    let b = found (λ f e. absurd cc) in
    let j = judges b.0 b.1 in
    record { tree = i; modules = ms; nothing = subst (AreBroken i ms) j.0 b.1; spec = j.1.spec; names = j.1.scopes }
are_names i ms (Err f) found judges = tt
