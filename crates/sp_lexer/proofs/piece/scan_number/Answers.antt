use Rattle.std.proofs.Common.{◌≡◌, ◌<◌, ◌≤◌, slice_range, refl, ap, sym, arith, w64, Some}
use Rattle.std.proofs.lemmas.Int.{to_z_pos}
use Rattle.sp_text.specs.Classes.{digit_byte}
use Rattle.sp_text.specs.declared.token.TokenKind.TheVariants as kind
use Rattle.sp_lexer.specs.Faults.{too_large}
use Rattle.sp_lexer.specs.Pieces.{number, number_of}
use Rattle.sp_lexer.specs.Tokens.{greatest_number}
use Rattle.sp_lexer.proofs.Longest.{number_longest, run_of}
use Rattle.sp_lexer.proofs.piece.scan_number.Goals as goal

pub returns-in-Some-clause-scanned : goal.returns-in-Some-clause-scanned
returns-in-Some-clause-scanned c =
    let text = c.args.text.now in
    let digits = c.scan_digits-digits in
    let n = c.in-Some.value in
    let value : (number_of (slice_range text c.args.place digits.result.end) ≡ n) × (n ≤ greatest_number) = rw c.in-Some.is at digits.ensures.value in
    let run = run_of text digit_byte c.args.place digits.result.end c.requires.inside c.requires.digit digits.ensures.run in
    record {
      piece = number n;
      stands = number_longest text n c.args.place digits.result.end (run, value.0) digits.ensures.run;
      in_range = value.1;
      is_kind = ap (λ z. Some (kind.Number z)) (sym (to_z_pos w64 n (omega (arith, value.1))));
    }

pub returns-in-None-clause-scanned : goal.returns-in-None-clause-scanned
returns-in-None-clause-scanned c =
    let text = c.args.text.now in
    let digits = c.scan_digits-digits in
    let n = number_of (slice_range text c.args.place digits.result.end) in
    let value : greatest_number < n = rw c.in-None.is at digits.ensures.value in
    let run = run_of text digit_byte c.args.place digits.result.end c.requires.inside c.requires.digit digits.ensures.run in
    λ count. rw c.span.ensures (too_large n digits.result.end (number_longest text n c.args.place digits.result.end (run, refl) digits.ensures.run) value)
