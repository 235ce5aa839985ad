-- The parameters of a mapping: each upper parameter is an expression over lower parameters.
use Rattle.std.specs.Prelude.{ℕ, List, [], ◌++◌, map, length, Option, Some, None}
use Rattle.std.specs.List.{flat_map}
use Rattle.std.specs.Option.{option_map}
use Rattle.sp_text.specs.declared.fault.Span.{Span}
use Rattle.sp_text.specs.declared.violation.Violation.{Violation}
use Rattle.sp_text.specs.Firsts.{behind}
use Rattle.sp_values.specs.declared.value.Value.TheVariants as value
use Rattle.sp_tree.specs.declared.interface.Equation.{Equation}
use Rattle.sp_core.specs.declared.expr.Expr.{Expr}
use Rattle.sp_core.specs.declared.expr.Expr.TheVariants as expr
use Rattle.sp_core.specs.declared.function.Param.{Param}
use Rattle.sp_core.specs.Parts.{Parts}
use Rattle.sp_core.specs.WellFormed.{names_of}
use Rattle.sp_plain.specs.Text.{text}
use Rattle.sp_naming.specs.Names.{repeated_names}
use Rattle.sp_judge.specs.Visible.{Visible}
use Rattle.sp_elaborate.specs.Expressions.{expression_of}
use Rattle.sp_functions.specs.Equations.{equation_name}
use Rattle.sp_functions.specs.Judged.{initial_broken, made}
use Rattle.sp_instance.specs.Heads.{names_in}
use Rattle.sp_instance.specs.Words.{place_of}
use Rattle.sp_mapping_rules.specs.Levels.{type_over}
use Rattle.sp_mapping_rules.specs.Rows.{row_head_broken, row_heads, with_types}
use Rattle.sp_mapping_rules.specs.Types.{at_place, item_at, missing}

abbrev pub param_name : Param → List ℕ
param_name q = q.name

abbrev pub param_count : Param → ℕ
param_count q = length q.formals

-- the upper parameter that a row is of
abbrev pub upper_param : List Param → Equation → Option Param
upper_param params r = at_place params (place_of (map param_name params) r.name.name)

-- the expression of a row: it has the parameter's type, translated, and reads no V-function
abbrev pub param_value_broken : Visible → List ℕ → Equation → Option Param → List Violation
param_value_broken s ts r None = []
param_value_broken s ts r (Some q) = initial_broken s (with_types ts r.formals q.formals) (type_over ts q.ty) (text r.value)

abbrev pub param_row_broken : Parts → Visible → List ℕ → Equation → List Violation
param_row_broken u s ts r =
    behind (row_head_broken (map param_name u.params) (names_of u) (option_map param_count (upper_param u.params r)) r)
    (param_value_broken s ts r (upper_param u.params r))

-- all rows; an upper parameter has at most one
abbrev pub params_broken : Parts → Visible → List ℕ → List Equation → List Violation
params_broken u s ts rows = repeated_names [] (row_heads rows) ++ flat_map (param_row_broken u s ts) rows

abbrev pub param_missing : Span → List Equation → Param → List Violation
param_missing p rows q = missing p (names_in (row_heads rows)) q.name

abbrev pub params_missing : Span → List Equation → List Param → List Violation
params_missing p rows params = flat_map (param_missing p rows) params

abbrev pub core_given : Visible → List ℕ → Param → Option Equation → Expr
core_given s ts q None = expr.Const value.Unknown
core_given s ts q (Some r) = expression_of (made s (with_types ts r.formals q.formals) (text r.value))

-- the expression of an upper parameter, by the first row of its name
abbrev pub param_core : Visible → List ℕ → List Equation → Param → Expr
param_core s ts rows q = core_given s ts q (item_at equation_name rows q.name)

abbrev pub param_cores : Visible → List ℕ → List Equation → List Param → List Expr
param_cores s ts rows params = map (param_core s ts rows) params
