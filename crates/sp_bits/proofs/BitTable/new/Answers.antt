use Rattle.std.proofs.Common.{◌*◌, ap, ◌∙◌}
use Rattle.sp_bits.specs.Table.{bit_in}
use Rattle.sp_bits.proofs.Tables.{table_empty, zeros_no_bit}
use Rattle.sp_bits.proofs.BitTable.new.Goals as goal

pub returns : goal.returns
returns c =
    table_empty c.args.count (64 * c.div_ceil-width.result) c.in_ok-words.words.items (λ m. ap (λ ws. bit_in ws m) (c.in_ok-words.ensures.items_if_clones_equal (λ y e. e)) ∙ zeros_no_bit _ m)
