use Rattle.std.proofs.Common.{◌≡◌, ◌&&◌, ◌*◌, false, ltb, sym, ap, ◌∙◌, arith}
use Rattle.std.proofs.lemmas.Bool.Decides.{nat_tests}
use Rattle.sp_bits.specs.Table.{has, bit_of}
use Rattle.sp_bits.proofs.Tables.{outside}
use Rattle.sp_bits.proofs.BitTable.contains.Goals as goal

pub returns-then-i-count : goal.returns-then-i-count
returns-then-i-count c =
    let s = c.self.inside in
    let out : (ltb c.args.i s.count && ltb c.args.j s.count) ≡ false = grind (arith, nat_tests, c.if-i-count.true) in
    sym (ap (λ t. has t c.args.i c.args.j) (sym c.self.view_is) ∙ outside s.count (bit_of s.words.items (64 * s.width)) c.args.i c.args.j out)

pub returns-then-j-count : goal.returns-then-j-count
returns-then-j-count c =
    let s = c.self.inside in
    let out : (ltb c.args.i s.count && ltb c.args.j s.count) ≡ false = grind (arith, nat_tests, c.if-j-count.true) in
    sym (ap (λ t. has t c.args.i c.args.j) (sym c.self.view_is) ∙ outside s.count (bit_of s.words.items (64 * s.width)) c.args.i c.args.j out)
