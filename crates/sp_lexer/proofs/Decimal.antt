-- The value of digits, with one digit more.
use Rattle.std.proofs.Common.{◌≡◌, ℕ, ◌+◌, ◌-◌, ◌*◌, ◌<◌, ◌≤◌, List, length, slice_range, slice_index, Option, Some, None, MatchOption, ◌∙◌, ap, arith}
use Rattle.std.proofs.lemmas.List.Sums.{fold_push}
use Rattle.sp_lexer.specs.Pieces.{number_of}
use Rattle.sp_lexer.specs.Tokens.{greatest_number}
use Rattle.sp_lexer.proofs.Ranges.{range-more}

pub number_more : (text : List ℕ) (start end : ℕ) → start ≤ end → end < length text
    → number_of (slice_range text start (end + 1)) ≡ 10 * number_of (slice_range text start end) + (slice_index text end - 48)
number_more text start end h k =
    ap number_of (range-more text start end h k) ∙ fold_push (λ n digit. 10 * n + (digit - 48)) 0 (slice_range text start end) (slice_index text end)

-- what is known of a value that may be too large
abbrev Values : Option ℕ → ℕ → Type 0
Values value n = MatchOption value (greatest_number < n) (λ m. (n ≡ m) × (m ≤ greatest_number))

pub value_more : (value next : Option ℕ) (n d : ℕ) → Values value n
    → MatchOption value (next ≡ None) (λ m. MatchOption next (greatest_number < 10 * m + d) (λ more. (10 * m + d ≡ more) × (more ≤ greatest_number)))
    → Values next (10 * n + d)
value_more None next n d h e = rw e (omega arith)
value_more (Some m) next n d h e = rw h.0 e
