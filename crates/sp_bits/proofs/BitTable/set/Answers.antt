use Rattle.std.proofs.Common.{◌≡◌, ◌||◌, ℕ, ◌+◌, ◌*◌, ◌<◌, eqb, not, Bool, true, false, refl, ap, ◌∙◌, arith}
use Rattle.std.specs.Vec.{with_items}
use Rattle.std.proofs.lemmas.List.{with_items_is}
use Rattle.sp_bits.specs.Table.{bit_in, bit_of}
use Rattle.sp_bits.proofs.Tables.{has_at, none_raised, table_changed, has_raised, raised_again, one_more}
use Rattle.sp_bits.proofs.BitTable.set.Goals as goal

pub returns-clause-table : goal.returns-clause-table
returns-clause-table c =
    let s = c.self.inside in
    let row_in : c.args.i < s.count = rw (← c.self.view_is) at c.requires.i in
    let column_in : c.args.j < s.count = rw (← c.self.view_is) at c.requires.j in
    let new = with_items s.words c.raise.new.words in
    let is_new : new.items ≡ c.raise.new.words = with_items_is s.words c.raise.new.words (omega arith) in
    let bits : (m : ℕ) → bit_in new.items m ≡ (eqb m (c.args.i * (64 * s.width) + c.args.j) || bit_in s.words.items m) = λ m. ap (λ ys. bit_in ys m) is_new ∙ c.raise.ensures m ∙ (cc (c.place-k.ensures.place, c.deref_mut.ensures.value)) in
    rw (← c.self.view_is) (table_changed s.words.items new.items s.count (64 * s.width) c.args.i c.args.j c.self.invariant.0 row_in column_in (λ x y. x || y) bits)

pub returns-clause-has : goal.returns-clause-has
returns-clause-has c =
    let s = c.self.inside in
    let row_in : c.args.i < s.count = rw (← c.self.view_is) at c.requires.i in
    let column_in : c.args.j < s.count = rw (← c.self.view_is) at c.requires.j in
    let new = with_items s.words c.raise.new.words in
    let is_new : new.items ≡ c.raise.new.words = with_items_is s.words c.raise.new.words (omega arith) in
    let bits : (m : ℕ) → bit_in new.items m ≡ (eqb m (c.args.i * (64 * s.width) + c.args.j) || bit_in s.words.items m) = λ m. ap (λ ys. bit_in ys m) is_new ∙ c.raise.ensures m ∙ (cc (c.place-k.ensures.place, c.deref_mut.ensures.value)) in
    rw (← c.self.view_is) (has_raised s.words.items new.items s.count (64 * s.width) c.args.i c.args.j c.self.invariant.0 row_in column_in bits)

pub invariant_of-self : goal.invariant_of-self
invariant_of-self c =
    let s = c.self.inside in
    let column_in : c.args.j < s.count = rw (← c.self.view_is) at c.requires.j in
    let new = with_items s.words c.raise.new.words in
    let is_new : new.items ≡ c.raise.new.words = with_items_is s.words c.raise.new.words (omega arith) in
    let bits : (m : ℕ) → bit_in new.items m ≡ (eqb m (c.args.i * (64 * s.width) + c.args.j) || bit_in s.words.items m) = λ m. ap (λ ys. bit_in ys m) is_new ∙ c.raise.ensures m ∙ (cc (c.place-k.ensures.place, c.deref_mut.ensures.value)) in
    let i = c.self.invariant in
    (i.0, i.1, i.2, none_raised s.words.items new.items s.count (64 * s.width) c.args.i c.args.j i.0 column_in i.3 bits)

not_true : (b : Bool) → not b ≡ true → b ≡ false
not_true true e = cc
not_true false e = refl

not_false : (b : Bool) → not b ≡ false → b ≡ true
not_false true e = refl
not_false false e = cc

pub returns-clause-was : goal.returns-clause-was
returns-clause-was c =
    let s = c.self.inside in
    let h = has_at s.words.items s.words.items s.count (64 * s.width) c.args.i c.args.j c.self.invariant.0 (rw (← c.self.view_is) at c.requires.i) (rw (← c.self.view_is) at c.requires.j) in
    ap not (cc (h, c.read-was.ensures, c.deref.ensures.value, c.place-k.ensures.place, c.self.view_is))

pub returns-clause-same : goal.returns-clause-same
returns-clause-same c = λ t.
    let s = c.self.inside in
    let row_in : c.args.i < s.count = rw (← c.self.view_is) at c.requires.i in
    let column_in : c.args.j < s.count = rw (← c.self.view_is) at c.requires.j in
    let new = with_items s.words c.raise.new.words in
    let is_new : new.items ≡ c.raise.new.words = with_items_is s.words c.raise.new.words (omega arith) in
    let bits : (m : ℕ) → bit_in new.items m ≡ (eqb m (c.args.i * (64 * s.width) + c.args.j) || bit_in s.words.items m) = λ m. ap (λ ys. bit_in ys m) is_new ∙ c.raise.ensures m ∙ (cc (c.place-k.ensures.place, c.deref_mut.ensures.value)) in
    let there : bit_in s.words.items (c.args.i * (64 * s.width) + c.args.j) ≡ true = cc (c.read-was.ensures, c.deref.ensures.value, c.place-k.ensures.place, not_false c.read-was.result t) in
    rw (← c.self.view_is) (raised_again s.words.items new.items s.count (64 * s.width) c.args.i c.args.j c.self.invariant.0 row_in column_in bits there)

pub returns-clause-one_more : goal.returns-clause-one_more
returns-clause-one_more c = λ t.
    let s = c.self.inside in
    let row_in : c.args.i < s.count = rw (← c.self.view_is) at c.requires.i in
    let column_in : c.args.j < s.count = rw (← c.self.view_is) at c.requires.j in
    let new = with_items s.words c.raise.new.words in
    let is_new : new.items ≡ c.raise.new.words = with_items_is s.words c.raise.new.words (omega arith) in
    let bits : (m : ℕ) → bit_in new.items m ≡ (eqb m (c.args.i * (64 * s.width) + c.args.j) || bit_in s.words.items m) = λ m. ap (λ ys. bit_in ys m) is_new ∙ c.raise.ensures m ∙ (cc (c.place-k.ensures.place, c.deref_mut.ensures.value)) in
    let absent : bit_in s.words.items (c.args.i * (64 * s.width) + c.args.j) ≡ false = cc (c.read-was.ensures, c.deref.ensures.value, c.place-k.ensures.place, not_true c.read-was.result t) in
    rw (← c.self.view_is) (one_more s.count (bit_of s.words.items (64 * s.width)) (bit_of new.items (64 * s.width)) c.args.i c.args.j row_in column_in
    (has_raised s.words.items new.items s.count (64 * s.width) c.args.i c.args.j c.self.invariant.0 row_in column_in bits)
    (has_at s.words.items s.words.items s.count (64 * s.width) c.args.i c.args.j c.self.invariant.0 row_in column_in ∙ absent))
