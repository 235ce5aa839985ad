-- What the names and headers of an interface and its modules break: one list, of which the first counts by file, place and number.
use Rattle.std.specs.Prelude.{ℕ, ◌*◌, List, [], ◌∷◌, ◌++◌, Bool, true, false, length, nat_lt, nat_le, if◌then◌else◌}
use Rattle.std.specs.List.{flat_map}
use Rattle.sp_text.specs.declared.fault.Quantity.TheVariants as quantity
use Rattle.sp_text.specs.declared.limits.TheConstants.{MOST_LEVELS, MOST_MODULES}
use Rattle.sp_text.specs.declared.violation.FileViolation.{FileViolation}
use Rattle.sp_text.specs.declared.violation.Violation.{Violation}
use Rattle.sp_text.specs.Violations.{exceeds, in_file}
use Rattle.sp_tree.specs.declared.interface.InterfaceTree.{InterfaceTree}
use Rattle.sp_tree.specs.declared.interface.LatticeTree.{LatticeTree}
use Rattle.sp_tree.specs.declared.interface.LatticeTree.TheVariants as lattice
use Rattle.sp_tree.specs.declared.module.Module.{Module}
use Rattle.sp_tree.specs.declared.names.Ident.{Ident}
use Rattle.sp_naming.specs.declared.declaration.Declaration.{Declaration}
use Rattle.sp_naming.specs.declared.declaration.Entity.{Entity}
use Rattle.sp_naming.specs.declared.declaration.Entity.TheVariants as entity
use Rattle.sp_naming.specs.Declarations.{declarations}
use Rattle.sp_naming.specs.Names.{named, repeated, repeated_names}
use Rattle.sp_scopes.specs.Headers.{asked, past}
use Rattle.sp_scopes.specs.Modules.{limits_broken, modules_broken}

abbrev pub is_level : Entity → Bool
is_level (entity.Level k) = true
is_level e = false

-- a name in ORDER is that of a level
abbrev pub level_rule : List Declaration → Ident → List Violation
level_rule ds x = asked is_level x.span (named ds x.name)

-- the first category with which n levels, doubled by each, are more than there may be
abbrev pub doubled_past : ℕ → List Ident → List Violation
doubled_past n [] = []
doubled_past n (c ∷ cs) = if nat_lt MOST_LEVELS (n * 2) then exceeds c.span quantity.Levels else doubled_past (n * 2) cs

abbrev pub product_past : List Ident → List Ident → List Violation
product_past chain categories = if nat_le (length chain) MOST_LEVELS then doubled_past (length chain) categories else []

-- A lattice: in ORDER stand names of levels alone; no category stands twice, and they don't make too many levels of a chain that is
-- itself within the limit.
abbrev pub lattice_broken : List Declaration → LatticeTree → List Violation
lattice_broken ds (lattice.Order p names chains) = flat_map (flat_map (level_rule ds)) chains
lattice_broken ds (lattice.Product p chain categories) =
    repeated_names [] categories ++ product_past chain categories

-- the interface: MODULES has no name twice and at most 32, and the lattice
abbrev pub interface_broken : List Declaration → InterfaceTree → List Violation
interface_broken ds i = repeated_names [] i.modules ++ (past MOST_MODULES quantity.Modules i.modules ++ lattice_broken ds i.lattice)

-- all that names and headers break
abbrev pub names_broken : List Declaration → InterfaceTree → List Module → List FileViolation
names_broken ds i ms =
    in_file 0 (interface_broken ds i) ++ (repeated [] ds ++ (limits_broken ds ++ modules_broken ds i.modules ms))

abbrev pub scopes_broken : InterfaceTree → List Module → List FileViolation
scopes_broken i ms = names_broken (declarations i ms) i ms
