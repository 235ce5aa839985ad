use Rattle.std.proofs.Common.{refl}
use Rattle.sp_forms.proofs.Whole.{answers, only}
use Rattle.sp_cursor.specs.Lines.{names_line}
use Rattle.sp_interface.specs.Equations.{equation_line, formal_names_line}
use Rattle.sp_interface.specs.Mappings.{functions_line, mapping_grammar, parameters_line, type_pair_line, types_line}
use Rattle.sp_interface.proofs.parse.parse_mapping.Goals as goal

pub returns : goal.returns
unfolding names_line equation_line formal_names_line functions_line mapping_grammar parameters_line type_pair_line types_line
returns c =
    let ts = c.args.tokens.now in
    let r = c.mapping.result in
    let a = answers mapping_grammar refl ts c.args.end r _ (rw c.new.ensures at c.mapping.ensures) in
    record { answers = a; only = only mapping_grammar refl ts c.args.end r a }
