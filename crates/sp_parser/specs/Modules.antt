-- The grammar of modules, a value for each of its lines. For the contract of the reader of modules.
--
-- A form has a budget of height, for each expression in it, and a budget of nesting: an IF or FORALL effect needs one of at
-- least 1, and the effects in it have one less.
use Rattle.std.specs.Prelude.{ℕ, suc, Bool, true, false, List, [], ◌∷◌, Option, Some, None}
use Rattle.sp_text.specs.declared.token.Token.{Token}
use Rattle.sp_tree.specs.declared.names.Ident.{Ident}
use Rattle.sp_tree.specs.declared.names.TypeTree.{TypeTree}
use Rattle.sp_tree.specs.declared.names.FormalTree.{FormalTree}
use Rattle.sp_tree.specs.declared.expr.ExprTree.{ExprTree}
use Rattle.sp_tree.specs.declared.effect.EffectTree.{EffectTree}
use Rattle.sp_tree.specs.declared.effect.EffectTree.TheVariants as effect
use Rattle.sp_tree.specs.declared.module.Header.{Header}
use Rattle.sp_tree.specs.declared.module.Body.{Body}
use Rattle.sp_tree.specs.declared.module.Body.TheVariants as body
use Rattle.sp_tree.specs.declared.module.FunDecl.{FunDecl}
use Rattle.sp_tree.specs.declared.module.TypeDecl.{TypeDecl}
use Rattle.sp_tree.specs.declared.module.Module.{Module}
use Rattle.sp_grammar.specs.Lang.{Lang}
use Rattle.sp_grammar.specs.Within.{Limits}
use Rattle.sp_grammar.specs.Codes.{span_of, word_module, word_end_module, word_types, word_parameters, word_definitions, word_external_refs, word_assertions, word_functions, word_designator, word_from, word_is, word_vfun, word_ofun, word_ovfun, word_hidden, word_exceptions, word_initially, word_derivation, word_effects, word_if, word_then, word_else, word_end_if, word_forall, word_end_forall, left_parenthesis, right_parenthesis, left_brace, right_brace, colon, semicolon, arrow}
use Rattle.sp_expression.specs.Contract.{expression_first}
use Rattle.sp_forms.specs.Grammars.{Gram, Line, Rec, token, name, expr, seq, either, optional, star, made, not_from, again, line, base, nested, map, behind, separated, list_or, section, means_in}
use Rattle.sp_cursor.specs.Lines.{type_line, formal_line, names_line}

-- What the longer lines make of their parts.

-- whether the function is hidden, and its exceptions
abbrev pub HiddenAndExceptions : Type 0
HiddenAndExceptions = Bool × List (Ident × ExprTree)

abbrev pub marks_or : Option HiddenAndExceptions → ℕ → ℕ → HiddenAndExceptions
marks_or None i j = (false, [])
marks_or (Some m) i j = m

-- exceptions and effects
abbrev pub Operation : Type 0
Operation = List (Ident × ExprTree) × List EffectTree

-- a name with its formals
abbrev pub Named : Type 0
Named = Ident × List FormalTree

-- VFUN, the name with its formals, the type, the semicolon, the marks, the body
abbrev pub value_function : Unit {0} × (Named × (TypeTree × (Unit {0} × (HiddenAndExceptions × Body)))) → FunDecl
value_function p = record {
  head = record { name = p.1.0.0; formals = p.1.0.1; ty = Some (p.1.1.0); result = None };
  hidden = p.1.1.1.1.0.0;
  exceptions = p.1.1.1.1.0.1;
  body = p.1.1.1.1.1;
}

-- OFUN, the name with its formals, the semicolon, the exceptions and effects
abbrev pub operation : Unit {0} × (Named × (Unit {0} × Operation)) → FunDecl
operation p = record {
  head = record { name = p.1.0.0; formals = p.1.0.1; ty = None; result = None };
  hidden = false;
  exceptions = p.1.1.1.0;
  body = body.Effects (p.1.1.1.1);
}

-- OVFUN, the name with its formals, the type, the result's name, the semicolon, the exceptions and effects
abbrev pub value_operation : Unit {0} × (Named × (TypeTree × (Ident × (Unit {0} × Operation)))) → FunDecl
value_operation p = record {
  head = record { name = p.1.0.0; formals = p.1.0.1; ty = Some (p.1.1.0); result = Some (p.1.1.1.0) };
  hidden = false;
  exceptions = p.1.1.1.1.1.0;
  body = body.Effects (p.1.1.1.1.1.1);
}

-- the variables of a FORALL effect
abbrev pub bound_list : FormalTree × Option FormalTree → ℕ → ℕ → List FormalTree
bound_list (v, None) i j = v ∷ []
bound_list (v, Some w) i j = v ∷ w ∷ []

-- IF, the condition, THEN, the effects, ELSE, the effects, END_IF, the semicolon; the span is that of IF
abbrev pub if_effect : List Token → Unit {0} × (ExprTree × (Unit {0} × (List EffectTree × (Unit {0} × (List EffectTree × (Unit {0} × Unit {0})))))) → ℕ → ℕ → EffectTree
if_effect ts p i j = effect.If (span_of ts i (suc i)) (p.1.0) (p.1.1.1.0) (p.1.1.1.1.1.0)

-- FORALL, the variables, the colon, the effects, END_FORALL, the semicolon; the span is that of FORALL
abbrev pub forall_effect : List Token → Unit {0} × (List FormalTree × (Unit {0} × (List EffectTree × (Unit {0} × Unit {0})))) → ℕ → ℕ → EffectTree
forall_effect ts p i j = effect.Forall (span_of ts i (suc i)) (p.1.0) (p.1.1.1.0)

-- MODULE, the name, then each section, and END_MODULE
abbrev pub module_of : Unit {0} × (Ident × (List TypeDecl × (List Header × (List (Header × ExprTree) × (List (Ident × List Ident) × (List ExprTree × (List FunDecl × Unit {0}))))))) → Module
module_of p = record {
  name = p.1.0;
  types = p.1.1.0;
  parameters = p.1.1.1.0;
  definitions = p.1.1.1.1.0;
  externals = p.1.1.1.1.1.0;
  assertions = p.1.1.1.1.1.1.0;
  functions = p.1.1.1.1.1.1.1.0;
}

-- The lines.

-- formal {";" formal}
unfoldable pub some_formals : Line (List FormalTree)
some_formals = separated semicolon formal_line

-- formals = "(" [formal {";" formal}] ")"
unfoldable pub formals_line : Line (List FormalTree)
formals_line = map (λ p. list_or (p.1.0)) (seq (token left_parenthesis) (seq (optional some_formals) (token right_parenthesis)))

-- name formals
unfoldable pub named_line : Line (Ident × List FormalTree)
named_line = seq name formals_line

-- type name formals
unfoldable pub header_line : Line Header
header_line = map (λ p. record { name = p.1.0; formals = p.1.1; ty = Some p.0; result = None }) (seq type_line named_line)

-- "->" type
unfoldable pub returned_line : Line TypeTree
returned_line = behind arrow type_line

-- DESIGNATOR | "{" names "}"
unfoldable pub members_line : Line (Option (List Ident))
members_line = either (map (λ u. None) (token word_designator)) (map (λ p. Some p.0) (seq (behind left_brace names_line) (token right_brace)))

-- typedecl = name ":" (DESIGNATOR | "{" names "}") ";"
unfoldable pub type_decl_line : Line TypeDecl
type_decl_line = map (λ p. record { name = p.0; members = p.1.1.0 }) (seq name (seq (token colon) (seq members_line (token semicolon))))

-- type name formals ";"
unfoldable pub parameter_line : Line Header
parameter_line = map (λ p. p.0) (seq header_line (token semicolon))

-- FROM name ":" names ";"
unfoldable pub external_line : Line (Ident × List Ident)
external_line = map (λ p. (p.1.0, p.1.1.1.0)) (seq (token word_from) (seq name (seq (token colon) (seq names_line (token semicolon)))))

-- formal [";" formal]
unfoldable pub bound_line : Line (List FormalTree)
bound_line = made (λ ts. bound_list) (seq formal_line (optional (behind semicolon formal_line)))

-- expr ";"
unfoldable pub statement_line : Line ExprTree
statement_line = map (λ p. p.0) (seq expr (token semicolon))

-- type name formals IS expr ";"
unfoldable pub definition_line : Line (Header × ExprTree)
definition_line = seq header_line (behind word_is statement_line)

-- name ":" expr ";"
unfoldable pub exception_line : Line (Ident × ExprTree)
exception_line = seq name (behind colon statement_line)

-- exceptions = EXCEPTIONS {name ":" expr ";"}
unfoldable pub exceptions_line : Line (List (Ident × ExprTree))
exceptions_line = behind word_exceptions (star exception_line)

-- [exceptions]
unfoldable pub maybe_exceptions : Line (List (Ident × ExprTree))
maybe_exceptions = map list_or (optional exceptions_line)

-- [HIDDEN ";" | exceptions]
unfoldable pub marks_line : Line HiddenAndExceptions
marks_line = made (λ ts. marks_or) (optional (either (map (λ p. (true, [])) (seq (token word_hidden) (token semicolon))) (map (λ es. (false, es)) exceptions_line)))

-- (INITIALLY | DERIVATION) expr ";"
unfoldable pub value_body : Line Body
value_body = either (map (λ e. body.Initially e) (behind word_initially statement_line)) (map (λ e. body.Derivation e) (behind word_derivation statement_line))

-- VFUN name formals "->" type ";" [HIDDEN ";" | exceptions] (INITIALLY | DERIVATION) expr ";"
unfoldable pub value_function_line : Line FunDecl
value_function_line = map value_function
    (seq (token word_vfun) (seq named_line (seq returned_line (seq (token semicolon) (seq marks_line value_body)))))

-- {effect}
unfoldable pub effects_line : Gram EffectTree (List EffectTree)
effects_line = star again

-- IF expr THEN {effect} ELSE {effect} END_IF ";"
unfoldable pub if_effect_line : Gram EffectTree EffectTree
if_effect_line = made if_effect
    (seq (token word_if) (seq expr (seq (token word_then) (seq effects_line (seq (token word_else) (seq effects_line (seq (token word_end_if) (token semicolon))))))))

-- FORALL formal [";" formal] ":" {effect} END_FORALL ";"
unfoldable pub forall_effect_line : Gram EffectTree EffectTree
forall_effect_line = made forall_effect
    (seq (token word_forall) (seq (line bound_line) (seq (token colon) (seq effects_line (seq (token word_end_forall) (token semicolon))))))

-- expr ";"  where expr begins with neither IF nor FORALL
unfoldable pub plain_line : Line EffectTree
plain_line = map (λ e. effect.Plain e) (not_from (word_if ∷ word_forall ∷ []) statement_line)

-- effect = IF expr THEN {effect} ELSE {effect} END_IF ";" | FORALL formal [";" formal] ":" {effect} END_FORALL ";"
--   | expr ";"  where expr begins with neither IF nor FORALL
unfoldable pub nested_effects : Rec EffectTree
nested_effects = record { begin = expression_first; behind = []; body = nested if_effect_line (nested forall_effect_line (base plain_line)) }

-- [exceptions] EFFECTS {effect}
unfoldable pub operation_body : Gram EffectTree Operation
operation_body = seq (line maybe_exceptions) (behind word_effects effects_line)

-- OFUN name formals ";" [exceptions] EFFECTS {effect}
unfoldable pub operation_line : Gram EffectTree FunDecl
operation_line = map operation (seq (token word_ofun) (seq (line named_line) (seq (token semicolon) operation_body)))

-- OVFUN name formals "->" type name ";" [exceptions] EFFECTS {effect}
unfoldable pub value_operation_line : Gram EffectTree FunDecl
value_operation_line = map value_operation
    (seq (token word_ovfun) (seq (line named_line) (seq (line returned_line) (seq name (seq (token semicolon) operation_body)))))

unfoldable pub function_line : Gram EffectTree FunDecl
function_line = either (line value_function_line) (either operation_line value_operation_line)

-- [TYPES {typedecl}]
unfoldable pub types_line : Line (List TypeDecl)
types_line = section word_types type_decl_line

-- [PARAMETERS {type name formals ";"}]
unfoldable pub parameters_line : Line (List Header)
parameters_line = section word_parameters parameter_line

-- [DEFINITIONS {type name formals IS expr ";"}]
unfoldable pub definitions_line : Line (List (Header × ExprTree))
definitions_line = section word_definitions definition_line

-- [EXTERNALREFS {FROM name ":" names ";"}]
unfoldable pub externals_line : Line (List (Ident × List Ident))
externals_line = section word_external_refs external_line

-- [ASSERTIONS {expr ";"}]
unfoldable pub assertions_line : Line (List ExprTree)
assertions_line = section word_assertions statement_line

-- [FUNCTIONS {function}]
unfoldable pub functions_line : Gram EffectTree (List FunDecl)
functions_line = section word_functions function_line

-- module = MODULE name [TYPES {typedecl}] [PARAMETERS {type name formals ";"}] [DEFINITIONS {type name formals IS expr ";"}]
--   [EXTERNALREFS {FROM name ":" names ";"}] [ASSERTIONS {expr ";"}] [FUNCTIONS {function}] END_MODULE
unfoldable pub module_grammar : Gram EffectTree Module
module_grammar = map module_of
    (seq (token word_module) (seq name (seq (line types_line) (seq (line parameters_line) (seq (line definitions_line) (seq (line externals_line)
    (seq (line assertions_line) (seq functions_line (token word_end_module)))))))))

-- what a module means in the text of these tokens, within both budgets
abbrev pub module_line : List Token → Limits → Lang Module
module_line = means_in nested_effects module_grammar
