-- The functions of a mapping: each upper primitive V-function is an expression over the lower machine.
use Rattle.std.specs.Prelude.{ℕ, List, [], ◌∷◌, ◌++◌, map, length, Option, Some, None, slice_get}
use Rattle.std.specs.List.{flat_map}
use Rattle.std.specs.Option.{option_map}
use Rattle.sp_text.specs.declared.fault.Span.{Span}
use Rattle.sp_text.specs.declared.violation.Violation.{Violation}
use Rattle.sp_text.specs.Firsts.{behind}
use Rattle.sp_values.specs.declared.value.Ty.{Ty}
use Rattle.sp_values.specs.declared.value.Value.TheVariants as value
use Rattle.sp_tree.specs.declared.interface.Equation.{Equation}
use Rattle.sp_core.specs.declared.expr.Expr.{Expr}
use Rattle.sp_core.specs.declared.expr.Expr.TheVariants as expr
use Rattle.sp_core.specs.declared.function.Formal.{Formal}
use Rattle.sp_core.specs.declared.function.Function.{Function}
use Rattle.sp_core.specs.declared.mapping.MapRow.{MapRow}
use Rattle.sp_core.specs.Parts.{Parts}
use Rattle.sp_core.specs.Tree.{Tree, tree}
use Rattle.sp_core.specs.Typing.{primitive_type}
use Rattle.sp_core.specs.WellFormed.{names_of}
use Rattle.sp_plain.specs.Text.{text}
use Rattle.sp_naming.specs.Names.{repeated_names}
use Rattle.sp_judge.specs.declared.scope.Site.TheVariants as site
use Rattle.sp_judge.specs.Broken.{limit_rules, whole_broken}
use Rattle.sp_judge.specs.Visible.{Visible}
use Rattle.sp_definitions.specs.Definitions.{kept}
use Rattle.sp_elaborate.specs.Expressions.{expression_of}
use Rattle.sp_functions.specs.Assertions.{formal_of}
use Rattle.sp_functions.specs.Judged.{made}
use Rattle.sp_instance.specs.Heads.{names_in}
use Rattle.sp_instance.specs.Scripts.{function_name}
use Rattle.sp_instance.specs.Words.{place_of}
use Rattle.sp_mapping_rules.specs.Levels.{level_over, type_over}
use Rattle.sp_mapping_rules.specs.Rows.{row_head_broken, row_heads, with_types}
use Rattle.sp_mapping_rules.specs.Types.{at_place, missing, number_or_none}

-- the name of a primitive V-function; of any other function none
abbrev pub name_if : List ℕ → Option Ty → List (List ℕ)
name_if x None = []
name_if x (Some t) = x ∷ []

abbrev pub primitive_name : Function → List (List ℕ)
primitive_name f = name_if f.name (primitive_type f.kind)

abbrev pub primitive_names : List Function → List (List ℕ)
primitive_names fs = flat_map primitive_name fs

abbrev pub formal_count : Function → ℕ
formal_count f = length f.formals

-- the number of the upper function that a row is of, and the function
abbrev pub upper_number : List Function → Equation → Option ℕ
upper_number fs r = place_of (map function_name fs) r.name.name

abbrev pub upper_function : List Function → Equation → Option Function
upper_function fs r = at_place fs (upper_number fs r)

-- the level of a place of the upper function, translated; `ps` are the expressions of the upper parameters
abbrev pub row_level : List ℕ → List Expr → Function → Tree
row_level ts ps f = level_over ts ps (length f.formals) (tree f.level)

-- an expression of the function's type, translated, where it has one
abbrev pub typed_broken : Visible → List ℕ → Equation → Function → Option Ty → List Violation
typed_broken s ts r f None = []
typed_broken s ts r f (Some t) = whole_broken s site.Outside (with_types ts r.formals f.formals) (Some (type_over ts t)) (text r.value)

-- the expression of a row; and its level, which may exceed limits, told at the row's name
abbrev pub function_value_broken : Visible → List ℕ → List Expr → Equation → Option Function → List Violation
function_value_broken s ts ps r None = []
function_value_broken s ts ps r (Some f) =
    typed_broken s ts r f (primitive_type f.kind) ++ limit_rules r.name.span (row_level ts ps f)

abbrev pub function_row_broken : Parts → Visible → List ℕ → List Expr → Equation → List Violation
function_row_broken u s ts ps r =
    behind (row_head_broken (primitive_names u.functions) (names_of u) (option_map formal_count (upper_function u.functions r)) r)
    (function_value_broken s ts ps r (upper_function u.functions r))

-- all rows; an upper function has at most one
abbrev pub functions_broken : Parts → Visible → List ℕ → List Expr → List Equation → List Violation
functions_broken u s ts ps rows = repeated_names [] (row_heads rows) ++ flat_map (function_row_broken u s ts ps) rows

-- each primitive V-function has a row
abbrev pub primitive_missing : Span → List (List ℕ) → List ℕ → Option Ty → List Violation
primitive_missing p names x None = []
primitive_missing p names x (Some t) = missing p names x

abbrev pub function_missing : Span → List Equation → Function → List Violation
function_missing p rows f = primitive_missing p (names_in (row_heads rows)) f.name (primitive_type f.kind)

abbrev pub functions_missing : Span → List Equation → List Function → List Violation
functions_missing p rows fs = flat_map (function_missing p rows) fs

abbrev pub formals_given : Option Function → List Formal
formals_given None = []
formals_given (Some f) = f.formals

-- a level that exceeds a limit, and so is refused where it is judged, is made `?`
abbrev pub level_given : List ℕ → List Expr → Option Function → Expr
level_given ts ps None = expr.Const value.Unknown
level_given ts ps (Some f) = expression_of (kept (row_level ts ps f))

-- the row that a text stands for
abbrev pub row_of : Parts → Visible → List ℕ → List Expr → Equation → MapRow
row_of u s ts ps r = record {
  upper = number_or_none (upper_number u.functions r);
  name = r.name.name;
  formals = map formal_of (with_types ts r.formals (formals_given (upper_function u.functions r)));
  value = expression_of (made s (with_types ts r.formals (formals_given (upper_function u.functions r))) (text r.value));
  level = level_given ts ps (upper_function u.functions r);
}
