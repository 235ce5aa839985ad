-- What the lexer finds at a place of a text: one piece, the longest there, or what is wrong there.
use Rattle.std.specs.Prelude.{◌≡◌, ℕ, List, Option, Some, None, slice_range}
use Rattle.sp_text.specs.declared.token.TokenKind.{TokenKind}
use Rattle.sp_text.specs.declared.token.TokenKind.TheVariants as kind
use Rattle.sp_text.specs.declared.fault.Malformed.{Malformed}
use Rattle.sp_text.specs.declared.fault.TextFault.TheVariants as fault
use Rattle.sp_lexer.specs.declared.piece.Lexeme.{Lexeme}
use Rattle.sp_lexer.specs.declared.piece.Lexeme.TheVariants as lexeme
use Rattle.sp_lexer.specs.declared.piece.Scanned.{Scanned}
use Rattle.sp_lexer.specs.Pieces.{Piece, IsLongest}
use Rattle.sp_lexer.specs.Tokens.{kind_of, IsInRange}
use Rattle.sp_lexer.specs.Faults.{HasFault}

-- what token a lexeme with these bytes is
abbrev pub lexeme_kind : Lexeme → List ℕ → TokenKind
lexeme_kind (lexeme.Keyword k) bytes = kind.Word k
lexeme_kind lexeme.Name bytes = kind.Name bytes
lexeme_kind (lexeme.Number n) bytes = kind.Number n
lexeme_kind (lexeme.Symbol s) bytes = kind.Symbol s

-- and none where there is no lexeme
abbrev pub scanned_kind : Option Lexeme → List ℕ → Option TokenKind
scanned_kind None bytes = None
scanned_kind (Some l) bytes = Some (lexeme_kind l bytes)

-- the longest piece at a place ends where the scan says, and is the token that it says, or none
pub record IsScanned (text : List ℕ) (place : ℕ) (s : Scanned) : Type 0 where
  pub piece : Piece
  pub stands : IsLongest text piece place s.end
  pub in_range : IsInRange piece
  pub is_kind : kind_of piece ≡ scanned_kind s.lexeme (slice_range text place s.end)

-- a rule is broken at a place, however many tokens stand before it
abbrev pub IsMalformed : List ℕ → ℕ → Malformed → Type 0
IsMalformed text place m = (count : ℕ) → HasFault text count place (fault.Malformed m)
