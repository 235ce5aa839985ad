-- When two tables are one.
use Rattle.std.proofs.Common.{◌≡◌, ℕ, sym, ap, ◌∙◌}
use Rattle.sp_bits.specs.Table.{Bits, IsTable, has, table}
use Rattle.sp_bits.proofs.Tables.{table-same}

-- tables of one count that have the same pairs are one
pub one_table : (t u : Bits) → IsTable t → IsTable u → t.count ≡ u.count → ((a b : ℕ) → has t a b ≡ has u a b) → t ≡ u
one_table t u x y count same = x ∙ ap (λ n. table n (has t)) count ∙ table-same u.count (has t) (has u) (λ a b k l. same a b) ∙ sym y
