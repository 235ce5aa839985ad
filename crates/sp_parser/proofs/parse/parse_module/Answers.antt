use Rattle.std.proofs.Common.{refl}
use Rattle.sp_forms.proofs.Whole.{answers_in, only_in}
use Rattle.sp_cursor.specs.Lines.{formal_line, names_line, type_line}
use Rattle.sp_parser.specs.Modules.{assertions_line, bound_line, definition_line, definitions_line, effects_line, exception_line, exceptions_line, external_line, externals_line, forall_effect_line, formals_line, function_line, functions_line, header_line, if_effect_line, marks_line, maybe_exceptions, members_line, module_grammar, named_line, nested_effects, operation_body, operation_line, parameter_line, parameters_line, plain_line, returned_line, some_formals, statement_line, type_decl_line, types_line, value_body, value_function_line, value_operation_line}
use Rattle.sp_parser.proofs.parse.parse_module.Goals as goal

pub returns : goal.returns
unfolding formal_line names_line type_line assertions_line bound_line definition_line definitions_line effects_line exception_line exceptions_line external_line externals_line forall_effect_line formals_line function_line functions_line header_line if_effect_line marks_line maybe_exceptions members_line module_grammar named_line nested_effects operation_body operation_line parameter_line parameters_line plain_line returned_line some_formals statement_line type_decl_line types_line value_body value_function_line value_operation_line
returns c =
    let ts = c.args.tokens.now in
    let r = c.module.result in
    let a = answers_in nested_effects module_grammar refl ts c.args.end r _ (rw c.new.ensures at c.module.ensures) in
    record { answers = a; only = only_in nested_effects module_grammar refl ts c.args.end r a }
