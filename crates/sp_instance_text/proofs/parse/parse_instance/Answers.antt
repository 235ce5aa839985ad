use Rattle.std.proofs.Common.{refl}
use Rattle.sp_forms.proofs.Whole.{answers, only}
use Rattle.sp_cursor.specs.Lines.{names_line}
use Rattle.sp_instance_text.specs.Instances.{instance_grammar, members_line, other_line, population_line, populations_line, row_line, rows_line, table_line, tables_line}
use Rattle.sp_instance_text.specs.Values.{constant_line, node_line, number_line, some_values, value_line, values_line}
use Rattle.sp_instance_text.proofs.parse.parse_instance.Goals as goal

pub returns : goal.returns
unfolding names_line instance_grammar members_line other_line population_line populations_line row_line rows_line table_line tables_line constant_line node_line number_line some_values value_line values_line
returns c =
    let ts = c.args.tokens.now in
    let r = c.instance.result in
    let a = answers instance_grammar refl ts c.args.end r _ (rw c.new.ensures at c.instance.ensures) in
    record { answers = a; only = only instance_grammar refl ts c.args.end r a }
