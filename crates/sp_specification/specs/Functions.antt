-- One function of a text: what it breaks by itself, apart from its header and its level, and the core function that it stands for.
use Rattle.std.specs.Prelude.{◌≡◌, ℕ, ◌+◌, not, List, [], ◌++◌, map, sum_by, Option, None, Some, unwrap_or, if◌then◌else◌, nat_lt}
use Rattle.std.specs.Option.{option_map}
use Rattle.sp_text.specs.declared.fault.Quantity.TheVariants as quantity
use Rattle.sp_text.specs.declared.fault.Span.{Span}
use Rattle.sp_text.specs.declared.limits.TheConstants.{MOST_DERIVATION_DEPTH}
use Rattle.sp_text.specs.declared.violation.Violation.{Violation}
use Rattle.sp_text.specs.Firsts.{behind}
use Rattle.sp_text.specs.Violations.{exceeds}
use Rattle.sp_values.specs.declared.value.Ty.{Ty}
use Rattle.sp_values.specs.declared.value.Ty.TheVariants as ty
use Rattle.sp_tree.specs.declared.effect.EffectTree.{EffectTree as TreeOfEffect}
use Rattle.sp_tree.specs.declared.expr.ExprTree.{ExprTree}
use Rattle.sp_tree.specs.declared.module.Body.{Body}
use Rattle.sp_tree.specs.declared.module.Body.TheVariants as body
use Rattle.sp_tree.specs.declared.module.FunDecl.{FunDecl}
use Rattle.sp_tree.specs.declared.names.Ident.{Ident}
use Rattle.sp_core.specs.declared.function.Effect.{Effect}
use Rattle.sp_core.specs.declared.function.Function.{Function}
use Rattle.sp_core.specs.declared.function.Kind.{Kind}
use Rattle.sp_core.specs.declared.function.Kind.TheVariants as kind
use Rattle.sp_core.specs.Effects.{effect_tree, effect_trees_of}
use Rattle.sp_core.specs.Measures.{effect_nodes_in, nodes}
use Rattle.sp_core.specs.Tree.{Tree, tree}
use Rattle.sp_plain.specs.Text.{text}
use Rattle.sp_scopes.specs.declared.heads.Head.{Head}
use Rattle.sp_scopes.specs.declared.heads.Local.{Local}
use Rattle.sp_scopes.specs.declared.heads.Sort.{Sort}
use Rattle.sp_scopes.specs.declared.heads.Sort.TheVariants as sort
use Rattle.sp_judge.specs.Visible.{Visible}
use Rattle.sp_effects.specs.EffectCore.{effects_core}
use Rattle.sp_effects.specs.EffectRules.{body_broken}
use Rattle.sp_effects.specs.EffectText.{EffectTexts, effect_text, effect_texts_of}
use Rattle.sp_functions.specs.Assertions.{formal_of}
use Rattle.sp_functions.specs.Depths.{derived_depth}
use Rattle.sp_functions.specs.Exceptions.{AreExceptionsOf, exceptions_broken}
use Rattle.sp_functions.specs.Judged.{derivation_broken, initial_broken, made}

-- the type that a function's head declares; an O-function declares none
abbrev pub head_type : Sort → Ty
head_type (sort.Plain t) = t
head_type (sort.Primitive t) = t
head_type (sort.Derived t) = t
head_type sort.Operation = ty.Boolean
head_type (sort.Both t) = t

abbrev pub ident_name : Ident → List ℕ
ident_name x = x.name

-- the name of a result; a function of a text that has a result has its name
abbrev pub result_name : Option Ident → List ℕ
result_name o = unwrap_or (option_map ident_name o) []

-- the result of an OV-function, with its name and type
abbrev pub answer_of : Sort → Option Ident → Option Local
answer_of (sort.Both t) o = Some (record { name = result_name o; ty = t })
answer_of s o = None

abbrev pub texts : List TreeOfEffect → EffectTexts
texts ws = effect_texts_of (map effect_text ws)

-- What function g breaks by what it does. It has this head; `p` is the place of its name, and `o` its result's name.
abbrev pub kind_broken : Visible → ℕ → Head → Span → Option Ident → Body → List Violation
kind_broken s g h p o (body.Initially e) = initial_broken s h.formals (head_type h.sort) (text e)
kind_broken s g h p o (body.Derivation e) = derivation_broken s g h.formals (head_type h.sort) (text e)
kind_broken s g h p o (body.Effects ws) = body_broken s p h.formals (answer_of h.sort o) (texts ws)

-- The depth of a function, from those of the functions before it; one that isn't derived has none.
abbrev pub depth_of : Visible → List ℕ → Head → Body → ℕ
depth_of s before h (body.Derivation e) = derived_depth before (made s h.formals (text e))
depth_of s before h b = 0

-- a function that is too deep, at its name
abbrev pub depth_broken : Span → ℕ → List Violation
depth_broken p n = if nat_lt MOST_DERIVATION_DEPTH n then exceeds p quantity.DerivationDepth else []

-- What a function breaks that has this head and the functions before it these depths, as many as its number says: its exceptions, and
-- what it does. How deep it is is judged where that breaks nothing.
abbrev pub function_broken : Visible → ℕ → List ℕ → Head → FunDecl → List Violation
function_broken s g before h x =
    exceptions_broken s h.formals x.exceptions
    ++ behind (kind_broken s g h x.head.name.span x.head.result x.body) (depth_broken x.head.name.span (depth_of s before h x.body))

-- the core effects that effects stand for
abbrev pub AreEffectsMade : Visible → List Local → Option Local → List TreeOfEffect → List Effect → Type 0
AreEffectsMade s l r ws es = effect_trees_of (map effect_tree es) ≡ effects_core s r l (texts ws)

-- what the function does, as a kind of core
abbrev pub IsKindOf : Visible → Head → Option Ident → Body → Kind → Type 0
IsKindOf s h o (body.Initially e) (kind.Primitive t x) = (h.sort ≡ sort.Primitive t) × (tree x ≡ made s h.formals (text e))
IsKindOf s h o (body.Derivation e) (kind.Derived t x) = (h.sort ≡ sort.Derived t) × (tree x ≡ made s h.formals (text e))
IsKindOf s h o (body.Effects ws) (kind.Operation es) = (h.sort ≡ sort.Operation) × AreEffectsMade s h.formals (answer_of h.sort o) ws es
IsKindOf s h o (body.Effects ws) (kind.Both t es) = (h.sort ≡ sort.Both t) × AreEffectsMade s h.formals (answer_of h.sort o) ws es
IsKindOf s h o b k = ⊥

-- the core function that a function with this head stands for, where l is the tree of its level
pub record IsFunctionOf (s : Visible) (h : Head) (x : FunDecl) (l : Tree) (f : Function) : Type 0 where
  pub name : f.name ≡ h.name
  pub visible : f.visible ≡ not x.hidden
  pub formals : f.formals ≡ map formal_of h.formals
  pub exceptions : AreExceptionsOf s h.formals x.exceptions f.exceptions
  pub kind : IsKindOf s h x.head.result x.body f.kind
  pub level : tree f.level ≡ l

-- Nodes

-- the nodes of a condition of an exception
abbrev pub condition_nodes : Visible → List Local → Ident × ExprTree → ℕ
condition_nodes s l x = nodes (made s l (text x.1))

-- those of what a function does
abbrev pub body_nodes : Visible → Head → Option Ident → Body → ℕ
body_nodes s h o (body.Initially e) = nodes (made s h.formals (text e))
body_nodes s h o (body.Derivation e) = nodes (made s h.formals (text e))
body_nodes s h o (body.Effects ws) = effect_nodes_in (effects_core s (answer_of h.sort o) h.formals (texts ws))

-- those of all expressions of a function whose level this is
abbrev pub nodes_of : Visible → Head → FunDecl → Tree → ℕ
nodes_of s h x level = sum_by (condition_nodes s h.formals) x.exceptions + (body_nodes s h x.head.result x.body + nodes level)
