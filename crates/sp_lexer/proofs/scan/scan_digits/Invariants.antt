use Rattle.std.proofs.Common.{ℕ, ◌≡◌, ◌-◌, ◌≤◌, ◌<◌, IsTrue, length, slice_index, slice_range, MatchOption}
use Rattle.sp_text.specs.Classes.{digit_byte}
use Rattle.sp_lexer.specs.Pieces.{number_of}
use Rattle.sp_lexer.specs.Tokens.{greatest_number}
use Rattle.sp_lexer.proofs.scan.scan_digits.Given as goal

abbrev pub invariant-loop-end : goal.invariant-loop-end
invariant-loop-end l = record {
  onwards : l.start ≤ l.end;
  within : l.end ≤ length l.text;
  each : (k : ℕ) → l.start ≤ k → k < l.end → IsTrue (digit_byte (slice_index l.text k));
  value : MatchOption l.value (greatest_number < number_of (slice_range l.text l.start l.end)) (λ n. (number_of (slice_range l.text l.start l.end) ≡ n) × (n ≤ greatest_number));
}

abbrev pub decreases-loop-end : goal.decreases-loop-end
decreases-loop-end l = length l.text - l.end
