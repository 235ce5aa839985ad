use Rattle.std.proofs.Common.{◌≡◌, ◌-◌, slice_range, slice_index, sym, inl, inr, arith}
use Rattle.std.proofs.lemmas.Bool.{cases_lt}
use Rattle.sp_lexer.specs.Pieces.{number_of}
use Rattle.sp_lexer.proofs.Decimal.{number_more, value_more}
use Rattle.sp_lexer.proofs.scan.scan_digits.Goals as goal

pub loop-end-preserved : goal.loop-end-preserved
loop-end-preserved c =
    let l = c.loop-end in
    let text = c.args.text.now in
    record {
      onwards = omega arith;
      within = omega arith;
      each = λ k p q. elim (cases_lt k l.end) [
        | inl lt ↦ l.invariant.each k p lt
        | inr ge ↦ (let e : k ≡ l.end = omega arith in rw e (sym c.if-is_digit.ensures))
      ];
      value = rw (number_more text c.args.start l.end l.invariant.onwards c.loop-end-test.true)
          (value_more l.value c.next_value-value.result (number_of (slice_range text c.args.start l.end)) (slice_index text l.end - 48) l.invariant.value c.next_value-value.ensures);
    }
