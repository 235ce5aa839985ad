-- What headers declare, where they break nothing: the types of formals and of values, and the sort of what is declared.
use Rattle.std.specs.Prelude.{ℕ, List, map, Option, None, Some}
use Rattle.sp_values.specs.declared.value.Ty.{Ty}
use Rattle.sp_values.specs.declared.value.Ty.TheVariants as ty
use Rattle.sp_tree.specs.declared.expr.ExprTree.{ExprTree}
use Rattle.sp_tree.specs.declared.module.Body.{Body}
use Rattle.sp_tree.specs.declared.module.Body.TheVariants as body
use Rattle.sp_tree.specs.declared.module.FunDecl.{FunDecl}
use Rattle.sp_tree.specs.declared.module.Header.{Header}
use Rattle.sp_tree.specs.declared.module.Module.{Module}
use Rattle.sp_tree.specs.declared.names.FormalTree.{FormalTree}
use Rattle.sp_tree.specs.declared.names.Ident.{Ident}
use Rattle.sp_tree.specs.declared.names.TypeTree.{TypeTree}
use Rattle.sp_tree.specs.declared.names.TypeTree.TheVariants as written
use Rattle.sp_naming.specs.declared.declaration.Declaration.{Declaration}
use Rattle.sp_naming.specs.declared.declaration.Entity.{Entity}
use Rattle.sp_naming.specs.declared.declaration.Entity.TheVariants as entity
use Rattle.sp_naming.specs.Visibility.{taken}
use Rattle.sp_scopes.specs.declared.heads.Head.{Head}
use Rattle.sp_scopes.specs.declared.heads.Local.{Local}
use Rattle.sp_scopes.specs.declared.heads.Sort.{Sort}
use Rattle.sp_scopes.specs.declared.heads.Sort.TheVariants as sort
use Rattle.sp_scopes.specs.Headers.{see_of}

-- the type that an entity is; no other entity stands in the place of a type where no rule is broken
abbrev pub entity_type : Entity → Ty
entity_type (entity.Declared k) = ty.Member k
entity_type e = ty.Boolean

abbrev pub named_type : Option Declaration → Ty
named_type None = ty.Boolean
named_type (Some d) = entity_type d.entity

-- the type that is written
abbrev pub type_of : (List ℕ → Option Declaration) → TypeTree → Ty
type_of see (written.Boolean p) = ty.Boolean
type_of see (written.Integer p) = ty.Integer
type_of see (written.Level p) = ty.Level
type_of see (written.Named x) = named_type (see x.name)

abbrev pub local_of : (List ℕ → Option Declaration) → FormalTree → Local
local_of see f = record { name = f.name.name; ty = type_of see f.ty }

-- the type of a value; a parameter, a definition and a V-function have one
abbrev pub value_type : (List ℕ → Option Declaration) → Option TypeTree → Ty
value_type see None = ty.Boolean
value_type see (Some t) = type_of see t

-- the sort of a function, by what it does and whether it has a result
abbrev pub effects_sort : (List ℕ → Option Declaration) → Option TypeTree → Sort
effects_sort see None = sort.Operation
effects_sort see (Some t) = sort.Both (type_of see t)

abbrev pub function_sort : (List ℕ → Option Declaration) → Option TypeTree → Body → Sort
function_sort see t (body.Initially e) = sort.Primitive (value_type see t)
function_sort see t (body.Derivation e) = sort.Derived (value_type see t)
function_sort see t (body.Effects es) = effects_sort see t

abbrev pub head_of : (List ℕ → Option Declaration) → Header → Sort → Head
head_of see h s = record { name = h.name.name; formals = map (local_of see) h.formals; sort = s }

-- the head of a parameter
abbrev pub plain_head : (List ℕ → Option Declaration) → Header → Head
plain_head see h = head_of see h (sort.Plain (value_type see h.ty))

abbrev pub definition_head : (List ℕ → Option Declaration) → Header × ExprTree → Head
definition_head see d = plain_head see d.0

abbrev pub function_head : (List ℕ → Option Declaration) → FunDecl → Head
function_head see g = head_of see g.head (function_sort see g.head.ty g.body)

-- what module k sees
abbrev pub sight : List Declaration → List Ident → ℕ → Module → List ℕ → Option Declaration
sight ds modules k m = see_of ds k (taken ds modules m.externals)

abbrev pub parameter_heads : List Declaration → List Ident → ℕ → Module → List Head
parameter_heads ds modules k m = map (plain_head (sight ds modules k m)) m.parameters

abbrev pub definition_heads : List Declaration → List Ident → ℕ → Module → List Head
definition_heads ds modules k m = map (definition_head (sight ds modules k m)) m.definitions

abbrev pub function_heads : List Declaration → List Ident → ℕ → Module → List Head
function_heads ds modules k m = map (function_head (sight ds modules k m)) m.functions
