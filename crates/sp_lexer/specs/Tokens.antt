-- The tokens of a text that has no fault: those of the only division of the text into longest pieces. For the lexer's
-- contract, and for the readers of token lists above it.
use Rattle.std.specs.Prelude.{◌≡◌, ℕ, pos, ◌≤ℤ◌, ◌≤◌, List, [], ◌∷◌, length, Option, Some, None, filter_map, All}
use Rattle.std.specs.Option.{option_map}
use Rattle.sp_text.specs.declared.limits.TheConstants.{MOST_TOKENS}
use Rattle.sp_text.specs.declared.token.Token.{Token}
use Rattle.sp_text.specs.declared.token.TokenKind.{TokenKind}
use Rattle.sp_text.specs.declared.token.TokenKind.TheVariants as kind
use Rattle.sp_lexer.specs.Pieces.{Piece, blank, comment, keyword, name, number, symbol, IsLongest}

-- the greatest number of a text, 2 ^ 63 - 1
abbrev pub greatest_number : ℕ
greatest_number = 9223372036854775807

-- the greatest number of tokens of a text
abbrev pub most_tokens : ℕ
most_tokens = MOST_TOKENS

-- a piece and its place
pub record Placed : Type 0 where
  pub piece : Piece
  pub start : ℕ
  pub end : ℕ

-- from here on and before end the text is these pieces, each the longest at its place
abbrev pub IsDivision : List ℕ → List Placed → ℕ → ℕ → Type 0
IsDivision text [] here end = here ≡ end
IsDivision text (p ∷ ps) here end = (p.start ≡ here) × IsLongest text p.piece here p.end × IsDivision text ps p.end end

-- a number isn't too large, where the piece is one
abbrev pub IsInRange : Piece → Type 0
IsInRange blank = Unit {0}
IsInRange comment = Unit {0}
IsInRange (keyword k) = Unit {0}
IsInRange (name n) = Unit {0}
IsInRange (number n) = n ≤ greatest_number
IsInRange (symbol s) = Unit {0}

-- what token a piece is: none where it is a blank or a comment
abbrev pub kind_of : Piece → Option TokenKind
kind_of blank = None
kind_of comment = None
kind_of (keyword k) = Some (kind.Word k)
kind_of (name n) = Some (kind.Name n)
kind_of (number n) = Some (kind.Number (pos n))
kind_of (symbol s) = Some (kind.Symbol s)

-- and with its place
abbrev pub token_of : Placed → Option Token
token_of p = option_map (λ k. record { kind = k; span = record { start = p.start; end = p.end } }) (kind_of p.piece)

-- the text before this place has these tokens and no fault
pub record HasTokens (text : List ℕ) (tokens : List Token) (place : ℕ) : Type 0 where
  pub pieces : List Placed
  pub division : IsDivision text pieces 0 place
  pub in_range : All (λ p. IsInRange p.piece) pieces
  pub tokens_are : filter_map token_of pieces ≡ tokens
  pub within : length tokens ≤ most_tokens

-- these are the tokens of the text, and it has no fault
abbrev pub IsTokens : List ℕ → List Token → Type 0
IsTokens text tokens = HasTokens text tokens (length text)

-- a number isn't negative, where the token is one
abbrev pub IsUnsigned : TokenKind → Type 0
IsUnsigned (kind.Word k) = Unit {0}
IsUnsigned (kind.Name n) = Unit {0}
IsUnsigned (kind.Number n) = pos 0 ≤ℤ n
IsUnsigned (kind.Symbol s) = Unit {0}
