-- The names of a lower specification, and what a mapping sees of them. For those who judge mappings.
use Rattle.std.specs.Prelude.{◌≡◌, List, []}
use Rattle.sp_lattice.specs.Order.{bottom_level, top_level}
use Rattle.sp_tree.specs.declared.interface.InterfaceTree.{InterfaceTree}
use Rattle.sp_tree.specs.declared.module.Module.{Module}
use Rattle.sp_core.specs.Parts.{Parts}
use Rattle.sp_scopes.specs.declared.scopes.Scopes.{Scopes}
use Rattle.sp_scopes.specs.Scopes.{scopes_of}
use Rattle.sp_judge.specs.Visible.{Visible}
use Rattle.sp_specification.specs.Broken.{AreBroken}
use Rattle.sp_specification.specs.Ends.{whole_view}
use Rattle.sp_specification.specs.Meaning.{IsSpecOf}

-- there are an interface and its modules that break nothing; they stand for the specification, and these are all their names
pub record AreNamesOf (p : Parts) (s : Scopes) : Type 0 where
  pub tree : InterfaceTree
  pub modules : List Module
  pub nothing : AreBroken tree modules []
  pub spec : IsSpecOf tree modules p
  pub names : s ≡ scopes_of tree modules

-- a mapping sees what the lower interface sees: all that is declared
abbrev pub lower_view : Parts → Scopes → Visible
lower_view p s = whole_view s (bottom_level p.lattice) (top_level p.lattice)
