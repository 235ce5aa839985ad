-- The tables that an instance's text gives the parameters, and what they break.
use Rattle.std.specs.Prelude.{◌≡◌, ℕ, Bool, false, List, [], ◌∷◌, ◌++◌, map, Option, Some, None, is_some, if◌then◌else◌}
use Rattle.std.specs.List.{flat_map, list_any}
use Rattle.std.specs.Map.{lookup}
use Rattle.sp_text.specs.declared.fault.Rule.TheVariants as rule
use Rattle.sp_text.specs.declared.fault.Span.{Span}
use Rattle.sp_text.specs.declared.violation.Violation.{Violation}
use Rattle.sp_text.specs.Violations.{breaks}
use Rattle.sp_values.specs.Identity.{same_values}
use Rattle.sp_values.specs.declared.value.Value.{Value}
use Rattle.sp_values.specs.declared.value.Value.TheVariants as value
use Rattle.sp_tree.specs.declared.instance.TableTree.{TableTree}
use Rattle.sp_tree.specs.declared.instance.ValueTree.{ValueTree}
use Rattle.sp_tree.specs.declared.names.Ident.{Ident}
use Rattle.sp_naming.specs.Names.{is_among, repeat_rule}
use Rattle.sp_core.specs.declared.function.Param.{Param}
use Rattle.sp_core.specs.Instances.{TableParts}
use Rattle.sp_core.specs.Machine.{types_of}
use Rattle.sp_instance.specs.Words.{Words}
use Rattle.sp_instance.specs.Meanings.{arguments_broken, arguments_in, value_broken, value_in}
use Rattle.sp_instance.specs.Heads.{item_named}

-- a row of a table: arguments, and the value there
abbrev pub RowText : Type 0
RowText = List ValueTree × ValueTree

abbrev pub table_head : TableTree → Ident
table_head t = t.name

abbrev pub table_named : List TableTree → List ℕ → Option TableTree
table_named tables x = item_named table_head tables x

-- what a row of a parameter's table stands for
abbrev pub row_of : Words → Param → RowText → List Value × Value
row_of w q r = (arguments_in w false (types_of q.formals) r.0, value_in w false q.ty r.1)

-- what it breaks by itself; the number of its arguments is told at the table's name, p
abbrev pub row_broken : Words → Param → Span → RowText → List Violation
row_broken w q p r = arguments_broken w false p (types_of q.formals) r.0 ++ value_broken w false q.ty r.1

-- the place of a row is that of its first value
abbrev pub row_span : RowText → Span
row_span r = by r.0
  where
    by : List ValueTree → Span
    by [] = r.1.span
    by (v ∷ vs) = v.span

-- The arguments by which rows are told apart: what a row's texts stand for, where these break nothing. The value behind them plays
-- no part.
abbrev pub where_fine : List Violation → List Value → Option (List Value)
where_fine [] a = Some a
where_fine (v ∷ vs) a = None

abbrev pub row_key : Words → Param → Span → RowText → Option (List Value)
row_key w q p r = where_fine (arguments_broken w false p (types_of q.formals) r.0) (arguments_in w false (types_of q.formals) r.0)

-- one of the lists of arguments
abbrev pub is_one_of : List (List Value) → List Value → Bool
is_one_of before a = list_any (same_values a) before

-- arguments that an earlier row has
abbrev pub repeat_broken : List (List Value) → Option (List Value) → Span → List Violation
repeat_broken before None p = []
repeat_broken before (Some a) p = repeat_rule (is_one_of before a) p

abbrev pub with_key : List (List Value) → Option (List Value) → List (List Value)
with_key before None = before
with_key before (Some a) = before ++ a ∷ []

-- the rows whose arguments an earlier row has, or one of those before
abbrev pub rows_repeated : (RowText → Option (List Value)) → List (List Value) → List RowText → List Violation
rows_repeated key before [] = []
rows_repeated key before (r ∷ rs) = repeat_broken before (key r) (row_span r) ++ rows_repeated key (with_key before (key r)) rs

-- the arguments of rows, behind those before
abbrev pub keys_after : (RowText → Option (List Value)) → List (List Value) → List RowText → List (List Value)
keys_after key before [] = before
keys_after key before (r ∷ rs) = keys_after key (with_key before (key r)) rs

-- whether one of the rows that a table has so far is of the arguments
abbrev pub have_arguments : List (List Value × Value) → List Value → Bool
have_arguments rows a = is_some (lookup (same_values a) rows)

abbrev pub IsSetOf : List (List Value) → (List Value → Bool) → Type 0
IsSetOf before holds = (a : List Value) → holds a ≡ is_one_of before a

-- what a table of the parameter stands for
abbrev pub table_of : Words → Param → TableTree → TableParts
table_of w q t = record { rows = map (row_of w q) t.rows; other = value_in w false q.ty t.other }

abbrev pub table_broken : Words → Param → TableTree → List Violation
table_broken w q t =
    flat_map (row_broken w q t.name.span) t.rows
    ++ rows_repeated (row_key w q t.name.span) [] t.rows
    ++ value_broken w false q.ty t.other

-- the table of a parameter is the first of its name
abbrev pub table_given : Words → Param → Option TableTree → TableParts
table_given w q None = record { rows = []; other = value.Unknown }
table_given w q (Some t) = table_of w q t

abbrev pub param_table : Words → List TableTree → Param → TableParts
param_table w tables q = table_given w q (table_named tables q.name)

abbrev pub given_broken : Words → Param → Option TableTree → List Violation
given_broken w q None = []
given_broken w q (Some t) = table_broken w q t

abbrev pub param_broken : Words → List TableTree → Param → List Violation
param_broken w tables q = given_broken w q (table_named tables q.name)

-- a parameter without a table is told at place p
abbrev pub missing : Span → List (List ℕ) → Param → List Violation
missing p names q = if is_among names q.name then [] else breaks p rule.NoTable
