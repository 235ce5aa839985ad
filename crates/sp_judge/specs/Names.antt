-- What a name stands for at a place.
use Rattle.std.specs.Prelude.{ℕ, suc, List, [], ◌∷◌, ◌++◌, Option, None, Some, Bool, true, false, slice_get, if◌then◌else◌}
use Rattle.std.specs.Str.{bytes_eq}
use Rattle.sp_values.specs.declared.value.Ty.{Ty}
use Rattle.sp_values.specs.declared.value.Ty.TheVariants as ty
use Rattle.sp_tree.specs.declared.names.TypeTree.{TypeTree}
use Rattle.sp_tree.specs.declared.names.TypeTree.TheVariants as typing
use Rattle.sp_tree.specs.declared.names.FormalTree.{FormalTree}
use Rattle.sp_naming.specs.declared.declaration.Entity.{Entity}
use Rattle.sp_naming.specs.declared.declaration.Entity.TheVariants as entity
use Rattle.sp_scopes.specs.declared.heads.Head.{Head}
use Rattle.sp_scopes.specs.declared.heads.Sort.{Sort}
use Rattle.sp_scopes.specs.declared.heads.Sort.TheVariants as sort
use Rattle.sp_scopes.specs.declared.heads.Local.{Local}
use Rattle.sp_judge.specs.Visible.{Visible, see, param_at, function_at, definition_at}
use Rattle.sp_judge.specs.declared.scope.Meaning.{Meaning}
use Rattle.sp_judge.specs.declared.scope.Meaning.TheVariants as meaning_

-- what a name stands for where no variable has it
abbrev pub shared_of : Option Entity → Meaning
shared_of None = meaning_.Nothing
shared_of (Some e) = meaning_.Shared e

-- a variable hides what is shared; `n` variables stand before these
abbrev pub meaning_from : Visible → ℕ → List Local → List ℕ → Meaning
meaning_from s n [] x = shared_of (see s x)
meaning_from s n (l ∷ ls) x = if bytes_eq l.name x then meaning_.Variable n l.ty else meaning_from s (suc n) ls x

-- what a name stands for where these variables are around
abbrev pub meaning : Visible → List Local → List ℕ → Meaning
meaning s l x = meaning_from s 0 l x

-- whether a variable has the name
abbrev pub is_local : List Local → List ℕ → Bool
is_local [] x = false
is_local (l ∷ ls) x = if bytes_eq l.name x then true else is_local ls x

-- the formals and the sort of what is called
abbrev pub head_of : Visible → Meaning → Option Head
head_of s (meaning_.Shared (entity.Param p)) = param_at s p
head_of s (meaning_.Shared (entity.Function g)) = function_at s g
head_of s (meaning_.Shared (entity.Definition d)) = definition_at s d
head_of s m = None

-- the type of a call; a call of an operation has none
abbrev pub sort_type : Sort → Option Ty
sort_type (sort.Plain t) = Some t
sort_type (sort.Primitive t) = Some t
sort_type (sort.Derived t) = Some t
sort_type f = None

abbrev pub type_of_head : Option Head → Option Ty
type_of_head None = None
type_of_head (Some h) = sort_type h.sort

-- the type that a name stands for; no other name stands in the place of a type where no rule is broken
abbrev pub declared_type : Meaning → Ty
declared_type (meaning_.Shared (entity.Declared t)) = ty.Member t
declared_type m = ty.Boolean

-- the type that is written
abbrev pub type_of : Visible → TypeTree → Ty
type_of s (typing.Boolean p) = ty.Boolean
type_of s (typing.Integer p) = ty.Integer
type_of s (typing.Level p) = ty.Level
type_of s (typing.Named x) = declared_type (shared_of (see s x.name))

-- the variables below a quantifier: its own comes last
abbrev pub with_formal : Visible → List Local → FormalTree → List Local
with_formal s l f = l ++ record { name = f.name.name; ty = type_of s f.ty } ∷ []
