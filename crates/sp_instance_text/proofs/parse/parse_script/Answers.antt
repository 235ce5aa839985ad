use Rattle.std.proofs.Common.{refl}
use Rattle.sp_forms.proofs.Whole.{answers, only}
use Rattle.sp_instance_text.specs.Scripts.{call_line, calls_line, script_grammar}
use Rattle.sp_instance_text.specs.Values.{constant_line, node_line, number_line, some_values, value_line, values_line}
use Rattle.sp_instance_text.proofs.parse.parse_script.Goals as goal

pub returns : goal.returns
unfolding call_line calls_line script_grammar constant_line node_line number_line some_values value_line values_line
returns c =
    let ts = c.args.tokens.now in
    let r = c.script.result in
    let a = answers script_grammar refl ts c.args.end r _ (rw c.new.ensures at c.script.ensures) in
    record { answers = a; only = only script_grammar refl ts c.args.end r a }
