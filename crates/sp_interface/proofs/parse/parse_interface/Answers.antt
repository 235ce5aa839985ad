use Rattle.std.proofs.Common.{refl}
use Rattle.sp_forms.proofs.Whole.{answers_counted, only_counted}
use Rattle.sp_cursor.specs.Lines.{names_line}
use Rattle.sp_interface.specs.Counts.{over_modules}
use Rattle.sp_interface.specs.Equations.{equation_line, formal_names_line}
use Rattle.sp_interface.specs.Interfaces.{interface_grammar, level_line, levels_line, modules_line, sample_line}
use Rattle.sp_interface.specs.Lattices.{above_line, all_above_line, categories_line, chain_line, declared_order_line, lattice_line, order_line, orders_line, product_line}
use Rattle.sp_interface.proofs.parse.parse_interface.Goals as goal

pub returns : goal.returns
unfolding names_line equation_line formal_names_line interface_grammar level_line levels_line modules_line sample_line above_line all_above_line categories_line chain_line declared_order_line lattice_line order_line orders_line product_line
returns c =
    let ts = c.args.tokens.now in
    let r = c.counted_interface.result in
    let a = answers_counted interface_grammar refl ts c.args.end over_modules r _ (rw c.new.ensures at c.counted_interface.ensures) in
    record { answers = a; only = only_counted interface_grammar refl ts c.args.end over_modules r a }
