-- The first fault of a text that has one, from the left, with its place. For the lexer's contract, and for whoever says
-- how a text is refused.
use Rattle.std.specs.Prelude.{◌≡◌, ℕ, ◌+◌, ◌<◌, List, length, IsSome}
use Rattle.sp_text.specs.declared.token.Token.{Token}
use Rattle.sp_text.specs.declared.fault.TextFault.{TextFault}
use Rattle.sp_text.specs.declared.fault.TextFault.TheVariants as fault
use Rattle.sp_text.specs.declared.fault.Rule.{Rule}
use Rattle.sp_text.specs.declared.fault.Rule.TheVariants as rule
use Rattle.sp_text.specs.declared.fault.Quantity.TheVariants as quantity
use Rattle.sp_lexer.specs.Pieces.{Piece, number, IsPiece, IsOpenComment, IsLongest}
use Rattle.sp_lexer.specs.Tokens.{IsInRange, kind_of, greatest_number, most_tokens, HasTokens}

-- a rule broken from start on and before end
abbrev pub malformed : ℕ → ℕ → Rule → TextFault
malformed start end r = fault.Malformed (record { span = record { start = start; end = end }; rule = r })

-- one token too many, from start on and before end
abbrev pub too_many : ℕ → ℕ → TextFault
too_many start end = fault.Limit (record { span = record { start = start; end = end }; quantity = quantity.Tokens })

-- what is wrong at a place of the text, with this number of tokens before it
pub data HasFault (text : List ℕ) (count place : ℕ) : TextFault → Type 0 where
  -- a byte with which no piece begins
  bad_byte : place < length text → ((p : Piece) (end : ℕ) → ¬ IsPiece text p place end) → ¬ IsOpenComment text place
      → HasFault text count place (malformed place (place + 1) rule.BadByte)
  -- a comment without its end
  open_comment : IsOpenComment text place → HasFault text count place (malformed place (length text) rule.OpenComment)
  -- a number of more than 2 ^ 63 - 1
  too_large : (n end : ℕ) → IsLongest text (number n) place end → greatest_number < n
      → HasFault text count place (malformed place end rule.NumberTooLarge)
  -- a token after as many as there may be
  one_more : (p : Piece) (end : ℕ) → IsLongest text p place end → IsSome (kind_of p) → IsInRange p → count ≡ most_tokens
      → HasFault text count place (too_many place end)

-- the text has this fault, and no fault before it
pub record IsFirstFault (text : List ℕ) (f : TextFault) : Type 0 where
  pub tokens : List Token
  pub place : ℕ
  pub before : HasTokens text tokens place
  pub here : HasFault text (length tokens) place f
