-- The text of an expression over the variables of a formula.
use Rattle.std.specs.Prelude.{ℕ, Bool, true, false, List, [], ◌++◌, Option, Some, None, codes, decimal, slice_get, take, if◌then◌else◌}
use Rattle.std.specs.List.{list_any}
use Rattle.std.specs.Str.{bytes_eq}
use Rattle.sp_values.specs.declared.value.Op.{Op}
use Rattle.sp_values.specs.declared.value.Op.TheVariants as op
use Rattle.sp_core.specs.declared.function.Formal.{Formal}
use Rattle.sp_core.specs.Parts.{Parts}
use Rattle.sp_core.specs.Tree.{Tree, Trees, Const, Var, Not, Two, If, Param, Look, Every, New, none, more}
use Rattle.sp_report.specs.Constants.{constant_text, name_of_function, name_of_param, type_text}

-- `#k`
abbrev pub numbered : ℕ → List ℕ
numbered k = codes "#" ++ decimal k

-- one of these variables has the name
abbrev pub is_named : List Formal → List ℕ → Bool
is_named vars name = list_any (λ x. bytes_eq x.name name) vars

-- A variable of the formula has its name, with `#k` behind it where an earlier one has that name too.
abbrev pub named_text : List Formal → ℕ → Option Formal → List ℕ
named_text vars k None = numbered k
named_text vars k (Some x) = if is_named (take k vars) x.name then x.name ++ numbered k else x.name

-- variable k, by its name; `#k` where a FORALL binds it
abbrev pub variable_text : List Formal → ℕ → List ℕ
variable_text vars k = named_text vars k (slice_get vars k)

-- the sign of an operator that stands between its operands
abbrev pub sign : Op → List ℕ
sign op.And = codes " AND "
sign op.Or = codes " OR "
sign op.Same = codes " = "
sign op.LevelLe = codes " <= "
sign op.IntLe = codes " <= "
sign op.IntLt = codes " < "
sign op.Add = codes " + "
sign op.Sub = codes " - "
sign op.Mul = codes " * "
sign op.Lub = codes "LUB("
sign op.Glb = codes "GLB("

-- whether an operator stands before its operands
abbrev pub is_bound : Op → Bool
is_bound op.Lub = true
is_bound op.Glb = true
is_bound o = false

-- whether an expression stands in parentheses as an operand of NOT or of an operator between operands: where it is one of
-- these itself
abbrev pub is_compound : Tree → Bool
is_compound (Not a) = true
is_compound (Two o a b) = if is_bound o then false else true
is_compound e = false

abbrev pub in_parentheses : List ℕ → List ℕ
in_parentheses t = codes "(" ++ (t ++ codes ")")

-- an operand, from its text
abbrev pub operand : Tree → List ℕ → List ℕ
operand e t = if is_compound e then in_parentheses t else t

-- an operator at two operands, from their texts: `a <= b`, or `LUB(a,b)`
abbrev pub two_text : Op → Tree → List ℕ → Tree → List ℕ → List ℕ
two_text o a s b t = if is_bound o then sign o ++ (s ++ (codes "," ++ (t ++ codes ")"))) else operand a s ++ (sign o ++ operand b t)

-- `f(a,b)`, from the text of the arguments
abbrev pub call_text : List ℕ → List ℕ → List ℕ
call_text name args = name ++ in_parentheses args

-- a choice, from the texts of its parts
abbrev pub choice_text : List ℕ → List ℕ → List ℕ → List ℕ
choice_text c a b = codes "IF " ++ (c ++ (codes " THEN " ++ (a ++ (codes " ELSE " ++ (b ++ codes " END_IF")))))

-- a quantified expression, from the texts of its type and its part
abbrev pub every_text : List ℕ → ℕ → List ℕ → List ℕ
every_text t k a = codes "FORALL " ++ (t ++ (codes " " ++ (numbered k ++ (codes ": " ++ (a ++ codes " END_FORALL")))))

abbrev mutual
  pub expr_text : Parts → List Formal → Tree → List ℕ
  expr_text p xs (Const v) = constant_text p v
  expr_text p xs (Var k) = variable_text xs k
  expr_text p xs (Not a) = codes "NOT " ++ operand a (expr_text p xs a)
  expr_text p xs (Two o a b) = two_text o a (expr_text p xs a) b (expr_text p xs b)
  expr_text p xs (If c a b) = choice_text (expr_text p xs c) (expr_text p xs a) (expr_text p xs b)
  expr_text p xs (Param q ds) = call_text (name_of_param (slice_get p.params q)) (list_text p xs ds)
  expr_text p xs (Look g ds) = call_text (name_of_function (slice_get p.functions g)) (list_text p xs ds)
  expr_text p xs (Every k t b) = every_text (type_text p t) k (expr_text p xs b)
  expr_text p xs (New g ds) = codes "'" ++ call_text (name_of_function (slice_get p.functions g)) (list_text p xs ds)

  -- with a comma between each two
  pub list_text : Parts → List Formal → Trees → List ℕ
  list_text p xs none = []
  list_text p xs (more d ds) = expr_text p xs d ++ rest_text p xs ds

  -- each behind a comma
  pub rest_text : Parts → List Formal → Trees → List ℕ
  rest_text p xs none = []
  rest_text p xs (more d ds) = codes "," ++ (expr_text p xs d ++ rest_text p xs ds)
