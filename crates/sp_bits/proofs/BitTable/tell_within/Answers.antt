use Rattle.std.proofs.Common.{◌*◌}
use Rattle.sp_bits.specs.Table.{bit_of}
use Rattle.sp_bits.proofs.Tables.{within, table_at_most, is_table}
use Rattle.sp_bits.proofs.BitTable.tell_within.Goals as goal

pub returns-clause-within : goal.returns-clause-within
returns-clause-within c =
    let s = c.self.inside in
    rw (← c.self.view_is) (λ a b e. within s.count (bit_of s.words.items (64 * s.width)) a b e)

pub returns-clause-few : goal.returns-clause-few
returns-clause-few c =
    let s = c.self.inside in
    rw (← c.self.view_is) (table_at_most s.count (bit_of s.words.items (64 * s.width)))

pub returns-clause-table : goal.returns-clause-table
returns-clause-table c =
    let s = c.self.inside in
    rw (← c.self.view_is) (is_table s.count (bit_of s.words.items (64 * s.width)))
