-- All rules that an expression of a text breaks, each with its place.
use Rattle.std.specs.Prelude.{ℕ, List, [], ◌∷◌, ◌++◌, Option, None, Some, Bool, true, false, length, if◌then◌else◌, is_some, nat_eq, nat_lt, slice_get}
use Rattle.sp_text.specs.declared.fault.Quantity.{Quantity}
use Rattle.sp_text.specs.declared.fault.Quantity.TheVariants as quantity
use Rattle.sp_text.specs.declared.fault.Rule.{Rule}
use Rattle.sp_text.specs.declared.fault.Rule.TheVariants as rule
use Rattle.sp_text.specs.declared.fault.Span.{Span}
use Rattle.sp_text.specs.declared.limits.TheConstants.{MOST_EXPRESSION_NODES, MOST_HEIGHT, MOST_QUANTIFIERS}
use Rattle.sp_text.specs.declared.violation.Violation.{Violation}
use Rattle.sp_text.specs.Firsts.{behind}
use Rattle.sp_text.specs.Violations.{breaks, exceeds}
use Rattle.sp_values.specs.declared.value.Ty.{Ty}
use Rattle.sp_values.specs.declared.value.Ty.TheVariants as ty
use Rattle.sp_tree.specs.declared.names.Ident.{Ident}
use Rattle.sp_tree.specs.declared.names.TypeTree.{TypeTree}
use Rattle.sp_tree.specs.declared.names.TypeTree.TheVariants as typing
use Rattle.sp_tree.specs.declared.names.FormalTree.{FormalTree}
use Rattle.sp_tree.specs.declared.expr.BinOp.{BinOp}
use Rattle.sp_tree.specs.declared.expr.BinOp.TheVariants as bin
use Rattle.sp_core.specs.Tree.{Tree}
use Rattle.sp_core.specs.Measures.{nodes, quantifiers}
use Rattle.sp_expand.specs.Sizes.{height}
use Rattle.sp_expand.specs.declared.size.Size.{Size}
use Rattle.sp_plain.specs.Text.{Text, Texts, Name, Number, Truth, Unknown, Bottom, Top, Call, New, Paren, Not, Binary, Join, If, Quant, none, more, span, count}
use Rattle.sp_naming.specs.declared.declaration.Entity.TheVariants as entity
use Rattle.sp_scopes.specs.declared.heads.Head.{Head}
use Rattle.sp_scopes.specs.declared.heads.Sort.{Sort}
use Rattle.sp_scopes.specs.declared.heads.Sort.TheVariants as sort
use Rattle.sp_judge.specs.Visible.{Visible, see, function_at, definition_at}
use Rattle.sp_judge.specs.declared.scope.Site.{Site}
use Rattle.sp_judge.specs.declared.scope.Site.TheVariants as site
use Rattle.sp_scopes.specs.declared.heads.Local.{Local}
use Rattle.sp_judge.specs.declared.scope.Meaning.{Meaning}
use Rattle.sp_judge.specs.declared.scope.Meaning.TheVariants as meaning_
use Rattle.sp_judge.specs.Names.{meaning, shared_of, is_local, head_of, type_of_head, with_formal}
use Rattle.sp_judge.specs.Translation.{own, translation, binary_type, either_type}

-- whether two types are one
abbrev pub same_type : Ty → Ty → Bool
same_type ty.Boolean ty.Boolean = true
same_type ty.Integer ty.Integer = true
same_type ty.Level ty.Level = true
same_type (ty.Member t) (ty.Member u) = nat_eq t u
same_type t u = false

-- whether a type has `?`: INTEGER and the declared types have
abbrev pub has_unknown : Ty → Bool
has_unknown ty.Integer = true
has_unknown (ty.Member t) = true
has_unknown t = false

-- the smallest part of a text without type of its own that has none: its first `?`
abbrev pub hole : Text → Span
hole (Paren p a) = hole a
hole (If p c a b) = hole a
hole e = span e

-- the first of two parts where it has a type
abbrev pub either_part : Option Ty → Span → Span → Span
either_part None p q = q
either_part (Some t) p q = p

-- a part of type `t` where the place may ask a type, which then is the same
abbrev pub asks : Option Ty → Span → Ty → List Violation
asks None p t = []
asks (Some q) p t = if same_type q t then [] else breaks p rule.WrongType

-- a `?` at `p` that takes the type `t`, which then is one with `?`
abbrev pub takes : Span → Ty → List Violation
takes p t = if has_unknown t then [] else breaks p rule.WrongType

-- a `?` takes the type that the place asks
abbrev pub asks_unknown : Option Ty → Span → List Violation
asks_unknown None p = []
asks_unknown (Some t) p = takes p t

-- Two sides take one type: different types are told at the right side, `p`, and a `?` beside a type without it at the `?`, which
-- stands at `a` on the left and at `b` on the right.
abbrev pub one_type : Span → Span → Span → Option Ty → Option Ty → List Violation
one_type a b p (Some t) (Some u) = if same_type t u then [] else breaks p rule.WrongType
one_type a b p (Some t) None = takes b t
one_type a b p None (Some u) = takes a u
one_type a b p None None = []

-- two sides without a type are told at the whole
abbrev pub no_type : Span → Option Ty → Option Ty → List Violation
no_type p None None = breaks p rule.WrongType
no_type p t u = []

-- A name without arguments is a variable, a member of an enumeration or a level; it is unknown where it isn't visible, and of a
-- wrong kind where it is anything else.
abbrev pub name_rules : Option Ty → Span → Meaning → List Violation
name_rules q p meaning_.Nothing = breaks p rule.UnknownName
name_rules q p (meaning_.Variable k t) = asks q p t
name_rules q p (meaning_.Shared (entity.Member t m)) = asks q p (ty.Member t)
name_rules q p (meaning_.Shared (entity.Level k)) = asks q p ty.Level
name_rules q p (meaning_.Shared e) = breaks p rule.WrongKind

-- what is called has a type; an O-function and an OV-function stand in no expression, nor does anything that isn't called
abbrev pub typed_rule : Span → Option Ty → List Violation
typed_rule p None = breaks p rule.WrongKind
typed_rule p (Some t) = []

-- What the name of a call, at `n`, breaks: it asks a parameter, a definition or a V-function. A definition may be called where it
-- stands before the one that is judged; the place is the whole call, `p`.
abbrev pub called_rules : Visible → Span → Span → Meaning → List Violation
called_rules s n p meaning_.Nothing = breaks n rule.UnknownName
called_rules s n p (meaning_.Shared (entity.Definition k)) = if nat_lt k (length s.cores) then typed_rule n (type_of_head (definition_at s k)) else breaks p rule.Cyclic
called_rules s n p m = typed_rule n (type_of_head (head_of s m))

-- what the name behind a quote breaks: it asks a V-function
abbrev pub quoted_rules : Visible → Span → Meaning → List Violation
quoted_rules s p meaning_.Nothing = breaks p rule.UnknownName
quoted_rules s p (meaning_.Shared (entity.Function k)) = typed_rule p (type_of_head (function_at s k))
quoted_rules s p m = breaks p rule.WrongKind

-- the type of a primitive V-function; what is of another sort has none
abbrev pub primitive_sort : Sort → Option Ty
primitive_sort (sort.Primitive t) = Some t
primitive_sort f = None

abbrev pub primitive_of : Option Head → Option Ty
primitive_of None = None
primitive_of (Some h) = primitive_sort h.sort

-- Whether the quoted reference of what has this head may stand there: in a target's arguments, in the value of a change and in
-- that of a result the new value of a primitive V-function may be read. An effect of neither form is judged by another rule.
abbrev pub may_quote : Site → Option Head → Bool
may_quote site.Loose h = true
may_quote site.Right h = is_some (primitive_of h)
may_quote i h = false

-- the rule that a quoted reference breaks which may not stand there
abbrev pub quote_rule : Site → Rule
quote_rule site.Guard = rule.NewValueInGuard
quote_rule site.Right = rule.NewValueOnRight
quote_rule i = rule.NewValueMisplaced

-- the place is the quoted reference
abbrev pub quote_rules : Site → Span → Option Head → List Violation
quote_rules i p h = if may_quote i h then [] else breaks p (quote_rule i)

-- the formals' types are asked of the arguments where there are as many, else none
abbrev pub asked_of : Option Head → ℕ → List Local
asked_of None n = []
asked_of (Some h) n = if nat_eq (length h.formals) n then h.formals else []

-- the type asked by the first of some formals, and the others
abbrev pub next_type : List Local → Option Ty
next_type [] = None
next_type (f ∷ fs) = Some f.ty

abbrev pub rest : List Local → List Local
rest [] = []
rest (f ∷ fs) = fs

-- a call has as many arguments as declared; the place is the called name
abbrev pub count_rule : Span → Option Head → ℕ → List Violation
count_rule p None n = []
count_rule p (Some h) n = if nat_eq (length h.formals) n then [] else breaks p rule.WrongCount

-- a call has the type of what is called
abbrev pub result_rule : Option Ty → Span → Option Ty → List Violation
result_rule q p None = []
result_rule q p (Some t) = asks q p t

-- a name in the place of a type is that of a declared type
abbrev pub type_name_rules : Span → Meaning → List Violation
type_name_rules p meaning_.Nothing = breaks p rule.UnknownName
type_name_rules p (meaning_.Shared (entity.Declared t)) = []
type_name_rules p m = breaks p rule.WrongKind

-- a quantifier ranges over any type but INTEGER
abbrev pub type_rules : Visible → TypeTree → List Violation
type_rules s (typing.Boolean p) = []
type_rules s (typing.Integer p) = breaks p rule.NotFinite
type_rules s (typing.Level p) = []
type_rules s (typing.Named x) = type_name_rules x.span (shared_of (see s x.name))

-- a quantifier's variable repeats no variable's name around it
abbrev pub twice_rule : List Local → FormalTree → List Violation
twice_rule l f = if is_local l f.name.name then breaks f.name.span rule.TwiceDeclared else []

-- a quantifier's variable: its type and its name
abbrev pub formal_rules : Visible → List Local → FormalTree → List Violation
formal_rules s l f = type_rules s f.ty ++ twice_rule l f

-- the type that an operator asks of its two sides
abbrev pub sides_asked : BinOp → Option Ty
sides_asked bin.Eq = None
sides_asked bin.Ne = None
sides_asked bin.Le = None
sides_asked bin.Lt = Some ty.Integer
sides_asked bin.Gt = Some ty.Integer
sides_asked bin.Ge = Some ty.Integer
sides_asked bin.Add = Some ty.Integer
sides_asked bin.Sub = Some ty.Integer
sides_asked bin.Mul = Some ty.Integer
sides_asked o = Some ty.Boolean

-- the smallest part that has the type of the whole: through parentheses, and in an IF its first branch with a type
abbrev pub typed_part : Visible → List Local → Text → Span
typed_part s l (Paren p a) = typed_part s l a
typed_part s l (If p c a b) = either_part (own s l a) (typed_part s l a) (typed_part s l b)
typed_part s l e = span e

-- `<=` takes two numbers or two levels
abbrev pub ordered : Span → Option Ty → List Violation
ordered p (Some ty.Boolean) = breaks p rule.WrongType
ordered p (Some (ty.Member k)) = breaks p rule.WrongType
ordered p t = []

-- What an operator breaks at its sides, of these types: `=` and `~=` take one type; so does `<=`, of two numbers or two levels; all
-- others ask their sides' types.
abbrev pub sides_rules : Visible → List Local → BinOp → Span → Text → Text → Option Ty → Option Ty → List Violation
sides_rules s l bin.Eq p a b t u = one_type (hole a) (hole b) (span b) t u ++ no_type p t u
sides_rules s l bin.Ne p a b t u = one_type (hole a) (hole b) (span b) t u ++ no_type p t u
sides_rules s l bin.Le p a b t u = (ordered (typed_part s l a) t ++ ordered (typed_part s l b) u) ++ (one_type (hole a) (hole b) (span b) t u ++ no_type p t u)
sides_rules s l o p a b t u = []

-- the branches of an IF of which no type is asked take one type
abbrev pub branch_rules : Option Ty → Text → Text → Option Ty → Option Ty → List Violation
branch_rules None a b t u = one_type (hole a) (hole b) (span b) t u
branch_rules (Some q) a b t u = []

abbrev mutual
  -- What an expression breaks. `i` says which quoted references may stand there, `q` is the type that the place asks, if any. What
  -- is made of parts is judged where they break nothing; an asked type goes through parentheses and into the branches of an IF.
  pub broken : Visible → Site → List Local → Option Ty → Text → List Violation
  broken s i l q (Name p x) = name_rules q p (meaning s l x)
  broken s i l q (Number p n) = asks q p ty.Integer
  broken s i l q (Truth p b) = asks q p ty.Boolean
  broken s i l q (Unknown p) = asks_unknown q p
  broken s i l q (Bottom p) = asks q p ty.Level
  broken s i l q (Top p) = asks q p ty.Level
  broken s i l q (Call p f ds) =
      behind (behind (called_rules s f.span p (meaning s l f.name) ++ all_broken s i l (asked_of (head_of s (meaning s l f.name)) (count ds)) ds)
      (count_rule f.span (head_of s (meaning s l f.name)) (count ds)))
      (result_rule q p (type_of_head (head_of s (meaning s l f.name))))
  broken s i l q (New p f ds) =
      behind (behind (quoted_rules s f.span (meaning s l f.name) ++ all_broken s i l (asked_of (head_of s (meaning s l f.name)) (count ds)) ds)
      (count_rule f.span (head_of s (meaning s l f.name)) (count ds)))
      (result_rule q p (type_of_head (head_of s (meaning s l f.name))) ++ quote_rules i p (head_of s (meaning s l f.name)))
  broken s i l q (Paren p a) = broken s i l q a
  broken s i l q (Not p a) = behind (broken s i l (Some ty.Boolean) a) (asks q p ty.Boolean)
  broken s i l q (Binary p o a b) =
      behind (behind (broken s i l (sides_asked o) a ++ broken s i l (sides_asked o) b)
      (sides_rules s l o p a b (own s l a) (own s l b)))
      (asks q p (binary_type o))
  broken s i l q (Join p u a b) = behind (broken s i l (Some ty.Level) a ++ broken s i l (Some ty.Level) b) (asks q p ty.Level)
  broken s i l q (If p c a b) =
      behind (broken s i l (Some ty.Boolean) c ++ (broken s i l q a ++ broken s i l q b))
      (branch_rules q a b (own s l a) (own s l b))
  broken s i l q (Quant p u f b) =
      behind (behind (formal_rules s l f) (broken s i (with_formal s l f) (Some ty.Boolean) b))
      (asks q p ty.Boolean)

  -- no type is asked of an argument beyond the list
  pub all_broken : Visible → Site → List Local → List Local → Texts → List Violation
  all_broken s i l qs none = []
  all_broken s i l qs (more d ds) = broken s i l (next_type qs) d ++ all_broken s i l (rest qs) ds

-- what a call's name, the rules of which are given, its arguments and their number break
abbrev pub call_broken : Visible → Site → List Local → List Violation → Ident → Texts → List Violation
call_broken s i l named f ds =
    behind (named ++ all_broken s i l (asked_of (head_of s (meaning s l f.name)) (count ds)) ds)
    (count_rule f.span (head_of s (meaning s l f.name)) (count ds))

-- the limits of an expression after expansion, in their order; `p` is the place of its text
abbrev pub limit_rules : Span → Tree → List Violation
limit_rules p e =
    (if nat_lt MOST_HEIGHT (height e) then exceeds p quantity.Height else [])
    ++ ((if nat_lt MOST_QUANTIFIERS (quantifiers e) then exceeds p quantity.Quantifiers else [])
    ++ (if nat_lt MOST_EXPRESSION_NODES (nodes e) then exceeds p quantity.ExpressionNodes else []))

-- the first quantity that a size exceeds, where it exceeds one
abbrev pub limit_quantity : Size → Quantity
limit_quantity a = if nat_lt MOST_HEIGHT a.height then quantity.Height else if nat_lt MOST_QUANTIFIERS a.quantifiers then quantity.Quantifiers else quantity.ExpressionNodes

-- all that an expression breaks that stands by itself: rules, and where it breaks none, limits
abbrev pub whole_broken : Visible → Site → List Local → Option Ty → Text → List Violation
whole_broken s i l q e = behind (broken s i l q e) (limit_rules (span e) (translation s l e))

-- an expression of which nothing asks a type, and which has none, is told at the whole
abbrev pub lacks_type : Span → Option Ty → List Violation
lacks_type p None = breaks p rule.WrongType
lacks_type p (Some t) = []

-- The same of an expression outside effects that has a type: the asked one, else its own.
abbrev pub typed_broken : Visible → List Local → Option Ty → Text → List Violation
typed_broken s l q e =
    behind (broken s site.Outside l q e) (behind (lacks_type (span e) (either_type q (own s l e))) (limit_rules (span e) (translation s l e)))
