-- What the level equations of an interface break.
use Rattle.std.specs.Prelude.{◌+◌, ◌<◌, List, [], ◌∷◌, ◌++◌, Option, None, Some, length, map}
use Rattle.std.specs.List.{flat_map}
use Rattle.sp_text.specs.declared.fault.Rule.TheVariants as rule
use Rattle.sp_text.specs.declared.fault.Span.{Span}
use Rattle.sp_text.specs.declared.violation.Violation.{Violation}
use Rattle.sp_text.specs.Firsts.{behind}
use Rattle.sp_text.specs.Violations.{breaks}
use Rattle.sp_tree.specs.declared.interface.Equation.{Equation}
use Rattle.sp_tree.specs.declared.names.Ident.{Ident}
use Rattle.sp_plain.specs.Text.{text}
use Rattle.sp_naming.specs.declared.declaration.Entity.{Entity}
use Rattle.sp_naming.specs.declared.declaration.Entity.TheVariants as entity
use Rattle.sp_naming.specs.Names.{repeated_names}
use Rattle.sp_scopes.specs.declared.heads.Head.{Head}
use Rattle.sp_scopes.specs.declared.heads.Local.{Local}
use Rattle.sp_judge.specs.Visible.{Visible, function_at, see}
use Rattle.sp_judge.specs.Broken.{count_rule}
use Rattle.sp_judge.specs.Translation.{binders}
use Rattle.sp_functions.specs.Judged.{level_broken}

-- the name of an equation is that of a function
abbrev pub function_rule : Span → Option Entity → List Violation
function_rule p None = breaks p rule.UnknownName
function_rule p (Some (entity.Function g)) = []
function_rule p (Some e) = breaks p rule.WrongKind

-- the head of the function that an equation is of
abbrev pub head_named : Visible → Option Entity → Option Head
head_named s (Some (entity.Function g)) = function_at s g
head_named s e = None

abbrev pub head_of : Visible → Equation → Option Head
head_of s q = head_named s (see s q.name.name)

abbrev pub with_type : Ident → Local → Local
with_type x f = record { name = x.name; ty = f.ty }

-- the equation's names with the types of the function's formals, as many as there are of both
abbrev pub with_types : List Ident → List Local → List Local
with_types [] fs = []
with_types (x ∷ xs) [] = []
with_types (x ∷ xs) (f ∷ fs) = with_type x f ∷ with_types xs fs

abbrev pub formals_of : Option Head → List Local
formals_of None = []
formals_of (Some h) = h.formals

-- the variables of an equation's term
abbrev pub locals_of : Visible → Equation → List Local
locals_of s q = with_types q.formals (formals_of (head_of s q))

-- An equation by itself: its name, names of formals that stand twice, their number, and the term.
abbrev pub equation_broken : Visible → Equation → List Violation
equation_broken s q =
    behind
    (behind (function_rule q.name.span (see s q.name.name) ++ repeated_names [] q.formals)
    (count_rule q.name.span (head_of s q) (length q.formals)))
    (level_broken s (locals_of s q) (text q.value))

abbrev pub equation_name : Equation → Ident
equation_name q = q.name

-- all equations; a function has at most one
abbrev pub equations_broken : Visible → List Equation → List Violation
equations_broken s qs = repeated_names [] (map equation_name qs) ++ flat_map (equation_broken s) qs

-- variables are numbered with 32 bits, far more than a text of limited height binds
abbrev pub HasRoom : Equation → Type 0
HasRoom q = length q.formals + binders (text q.value) < 4294967288
