-- All that an interface and its modules declare, as one list in the order in which it is judged.
use Rattle.std.specs.Prelude.{ℕ, List, [], ◌∷◌, ◌++◌, length, Option, None, Some}
use Rattle.sp_tree.specs.declared.interface.InterfaceTree.{InterfaceTree}
use Rattle.sp_tree.specs.declared.expr.ExprTree.{ExprTree}
use Rattle.sp_tree.specs.declared.module.FunDecl.{FunDecl}
use Rattle.sp_tree.specs.declared.module.Header.{Header}
use Rattle.sp_tree.specs.declared.module.Module.{Module}
use Rattle.sp_tree.specs.declared.module.TypeDecl.{TypeDecl}
use Rattle.sp_tree.specs.declared.names.Ident.{Ident}
use Rattle.sp_naming.specs.declared.declaration.Declaration.{Declaration}
use Rattle.sp_naming.specs.declared.declaration.Entity.{Entity}
use Rattle.sp_naming.specs.declared.declaration.Entity.TheVariants as entity
use Rattle.sp_naming.specs.declared.listing.Counts.{Counts}
use Rattle.sp_naming.specs.Levels.{level_declarations}
use Rattle.sp_naming.specs.Numbers.{after, counted, numbered}

-- the name declares this
abbrev pub declaration : ℕ → Ident → Entity → Declaration
declaration f x e = record { file = f; name = x.name; span = x.span; entity = e; owner = None }

-- the name declares a member of the type that is named
abbrev pub owned : ℕ → Entity → List ℕ → Ident → Declaration
owned f e owner x = record { file = f; name = x.name; span = x.span; entity = e; owner = Some owner }

-- member k of type t, whose name is given
abbrev pub member : ℕ → ℕ → List ℕ → ℕ → Ident → List Declaration
member f t owner k x = owned f (entity.Member t k) owner x ∷ []

abbrev pub members : ℕ → ℕ → List ℕ → Option (List Ident) → List Declaration
members f t owner None = []
members f t owner (Some xs) = numbered (member f t owner) 0 xs

-- a type, followed by its members
abbrev pub type_declaration : ℕ → ℕ → TypeDecl → List Declaration
type_declaration f t d = declaration f d.name (entity.Declared t) ∷ members f t d.name.name d.members

abbrev pub param_declaration : ℕ → ℕ → Header → List Declaration
param_declaration f k h = declaration f h.name (entity.Param k) ∷ []

abbrev pub definition_declaration : ℕ → ℕ → Header × ExprTree → List Declaration
definition_declaration f k d = declaration f d.0.name (entity.Definition k) ∷ []

abbrev pub function_declaration : ℕ → ℕ → FunDecl → List Declaration
function_declaration f k g = declaration f g.head.name (entity.Function k) ∷ []

-- what a module declares: its types, parameters, definitions and functions, of which the first have these numbers
abbrev pub module_declarations : ℕ → Counts → Module → List Declaration
module_declarations f c m =
    numbered (type_declaration f) c.types m.types
    ++ numbered (param_declaration f) c.parameters m.parameters
    ++ numbered (definition_declaration f) c.definitions m.definitions
    ++ numbered (function_declaration f) c.functions m.functions

-- the numbers that come after those of the module
abbrev pub counts_after : Counts → Module → Counts
counts_after c m = record {
  types = counted c.types (length m.types);
  parameters = counted c.parameters (length m.parameters);
  definitions = counted c.definitions (length m.definitions);
  functions = counted c.functions (length m.functions);
}

-- what modules declare, module by module, each a file
abbrev pub modules_declarations : ℕ → Counts → List Module → List Declaration
modules_declarations f c [] = []
modules_declarations f c (m ∷ ms) = module_declarations f c m ++ modules_declarations (after f) (counts_after c m) ms

-- nothing is declared yet
abbrev pub no_counts : Counts
no_counts = record { types = 0; parameters = 0; definitions = 0; functions = 0 }

-- The levels are declared by the interface, which is file 0; the modules are the files from 1 on.
abbrev pub declarations : InterfaceTree → List Module → List Declaration
declarations i ms = level_declarations i.lattice ++ modules_declarations 1 no_counts ms
