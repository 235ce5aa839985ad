-- What is known where names and headers break nothing. For all that judges more of an interface and its modules.
use Rattle.std.proofs.Common.{◌≡◌, refl, List, [], ◌∷◌, ◌++◌}
use Rattle.sp_text.specs.declared.violation.FileViolation.{FileViolation}
use Rattle.sp_text.specs.Violations.{in_file}
use Rattle.sp_tree.specs.declared.interface.InterfaceTree.{InterfaceTree}
use Rattle.sp_tree.specs.declared.module.Module.{Module}
use Rattle.sp_naming.specs.Declarations.{declarations}
use Rattle.sp_naming.specs.Names.{repeated}
use Rattle.sp_scopes.specs.Interfaces.{interface_broken, scopes_broken}
use Rattle.sp_scopes.specs.Modules.{limits_broken, modules_broken}

left_none : (xs ys : List FileViolation) → xs ++ ys ≡ [] → xs ≡ []
left_none [] ys h = refl
left_none (f ∷ xs) ys h = absurd cc

right_none : (xs ys : List FileViolation) → xs ++ ys ≡ [] → ys ≡ []
right_none [] ys h = h
right_none (f ∷ xs) ys h = absurd cc

after_interface : (i : InterfaceTree) (ms : List Module) → scopes_broken i ms ≡ [] →
    repeated [] (declarations i ms) ++ (limits_broken (declarations i ms) ++ modules_broken (declarations i ms) i.modules ms) ≡ []
after_interface i ms h =
    let ds = declarations i ms in
    right_none (in_file 0 (interface_broken ds i)) (repeated [] ds ++ (limits_broken ds ++ modules_broken ds i.modules ms)) h

-- no name is declared twice
pub no_repeats : (i : InterfaceTree) (ms : List Module) → scopes_broken i ms ≡ [] → repeated [] (declarations i ms) ≡ []
no_repeats i ms h =
    let ds = declarations i ms in
    left_none (repeated [] ds) (limits_broken ds ++ modules_broken ds i.modules ms) (after_interface i ms h)

after_names : (i : InterfaceTree) (ms : List Module) → scopes_broken i ms ≡ [] → limits_broken (declarations i ms) ++ modules_broken (declarations i ms) i.modules ms ≡ []
after_names i ms h =
    let ds = declarations i ms in
    right_none (repeated [] ds) (limits_broken ds ++ modules_broken ds i.modules ms) (after_interface i ms h)

-- no declaration is over a limit
pub within_limits : (i : InterfaceTree) (ms : List Module) → scopes_broken i ms ≡ [] → limits_broken (declarations i ms) ≡ []
within_limits i ms h =
    let ds = declarations i ms in
    left_none (limits_broken ds) (modules_broken ds i.modules ms) (after_names i ms h)

-- no module breaks anything by its names and headers
pub modules_fine : (i : InterfaceTree) (ms : List Module) → scopes_broken i ms ≡ [] → modules_broken (declarations i ms) i.modules ms ≡ []
modules_fine i ms h =
    let ds = declarations i ms in
    right_none (limits_broken ds) (modules_broken ds i.modules ms) (after_names i ms h)
