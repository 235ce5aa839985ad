use Rattle.std.proofs.Common.{ℕ, ◌-◌, ◌≤◌, ◌<◌, IsTrue, length, slice_index}
use Rattle.sp_lexer.specs.Pieces.{word_byte}
use Rattle.sp_lexer.proofs.scan.word_end.Given as goal

abbrev pub invariant-loop-end : goal.invariant-loop-end
invariant-loop-end l = record {
  onwards : l.start ≤ l.end;
  within : l.end ≤ length l.text;
  each : (k : ℕ) → l.start ≤ k → k < l.end → IsTrue (word_byte (slice_index l.text k));
}

abbrev pub decreases-loop-end : goal.decreases-loop-end
decreases-loop-end l = length l.text - l.end
