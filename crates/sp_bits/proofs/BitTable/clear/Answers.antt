use Rattle.std.proofs.Common.{◌≡◌, ◌&&◌, ℕ, ◌+◌, ◌*◌, ◌<◌, eqb, not, ap, ◌∙◌, arith}
use Rattle.std.specs.Vec.{with_items}
use Rattle.std.proofs.lemmas.List.{with_items_is}
use Rattle.sp_bits.specs.Table.{bit_in}
use Rattle.sp_bits.proofs.Tables.{table_changed, has_lowered, one_less}
use Rattle.sp_bits.proofs.BitTable.clear.Goals as goal

pub returns-clause-table : goal.returns-clause-table
returns-clause-table c =
    let s = c.self.inside in
    let row_in : c.args.i < s.count = rw (← c.self.view_is) at c.requires.i in
    let column_in : c.args.j < s.count = rw (← c.self.view_is) at c.requires.j in
    let new = with_items s.words c.lower.new.words in
    let is_new : new.items ≡ c.lower.new.words = with_items_is s.words c.lower.new.words (omega arith) in
    let bits : (m : ℕ) → bit_in new.items m ≡ (not (eqb m (c.args.i * (64 * s.width) + c.args.j)) && bit_in s.words.items m) = λ m. ap (λ ys. bit_in ys m) is_new ∙ c.lower.ensures m ∙ (cc (c.place-k.ensures.place, c.deref_mut.ensures.value)) in
    rw (← c.self.view_is) (table_changed s.words.items new.items s.count (64 * s.width) c.args.i c.args.j c.self.invariant.0 row_in column_in (λ x y. not x && y) bits)

pub returns-clause-has : goal.returns-clause-has
returns-clause-has c =
    let s = c.self.inside in
    let row_in : c.args.i < s.count = rw (← c.self.view_is) at c.requires.i in
    let column_in : c.args.j < s.count = rw (← c.self.view_is) at c.requires.j in
    let new = with_items s.words c.lower.new.words in
    let is_new : new.items ≡ c.lower.new.words = with_items_is s.words c.lower.new.words (omega arith) in
    let bits : (m : ℕ) → bit_in new.items m ≡ (not (eqb m (c.args.i * (64 * s.width) + c.args.j)) && bit_in s.words.items m) = λ m. ap (λ ys. bit_in ys m) is_new ∙ c.lower.ensures m ∙ (cc (c.place-k.ensures.place, c.deref_mut.ensures.value)) in
    rw (← c.self.view_is) (has_lowered s.words.items new.items s.count (64 * s.width) c.args.i c.args.j c.self.invariant.0 row_in column_in bits)

pub returns-clause-one_less : goal.returns-clause-one_less
returns-clause-one_less c =
    let s = c.self.inside in
    let row_in : c.args.i < s.count = rw (← c.self.view_is) at c.requires.i in
    let column_in : c.args.j < s.count = rw (← c.self.view_is) at c.requires.j in
    let new = with_items s.words c.lower.new.words in
    let is_new : new.items ≡ c.lower.new.words = with_items_is s.words c.lower.new.words (omega arith) in
    let bits : (m : ℕ) → bit_in new.items m ≡ (not (eqb m (c.args.i * (64 * s.width) + c.args.j)) && bit_in s.words.items m) = λ m. ap (λ ys. bit_in ys m) is_new ∙ c.lower.ensures m ∙ (cc (c.place-k.ensures.place, c.deref_mut.ensures.value)) in
    rw (← c.self.view_is) (one_less s.words.items new.items s.count (64 * s.width) c.args.i c.args.j c.self.invariant.0 row_in column_in bits)
