use Rattle.std.proofs.Common.{refl}
use Rattle.sp_forms.proofs.Whole.{answers_counted, only_counted}
use Rattle.sp_interface.specs.Counts.{over_interfaces}
use Rattle.sp_interface.specs.Hierarchies.{hierarchy_grammar, row_line, rows_line}
use Rattle.sp_interface.proofs.parse.parse_hierarchy.Goals as goal

pub returns : goal.returns
unfolding hierarchy_grammar row_line rows_line
returns c =
    let ts = c.args.tokens.now in
    let r = c.counted_hierarchy.result in
    let a = answers_counted hierarchy_grammar refl ts c.args.end over_interfaces r _ (rw c.new.ensures at c.counted_hierarchy.ensures) in
    record { answers = a; only = only_counted hierarchy_grammar refl ts c.args.end over_interfaces r a }
