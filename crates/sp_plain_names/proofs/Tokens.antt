-- The names of a text's tokens are plain.
use Rattle.std.proofs.Common.{◌≡◌, ◌∙◌, ℕ, zero, suc, ◌+◌, ◌-◌, ◌<◌, List, [], ◌∷◌, Option, None, Some, IsTrue, ap, arith, drop, filter_map, get_or, get_or-drop, get_or-take, length, length-take, slice_get, slice_range, sym, subst}
use Rattle.std.specs.List.{All, cons_option}
use Rattle.std.proofs.lemmas.List.Elements.{All-nil, All-cons}
use Rattle.sp_text.specs.declared.fault.Span.{Span}
use Rattle.sp_text.specs.declared.token.Token.{Token}
use Rattle.sp_text.specs.declared.token.TokenKind.{TokenKind}
use Rattle.sp_text.specs.declared.token.TokenKind.TheVariants as kind
use Rattle.sp_lexer.specs.Pieces.{Piece, blank, comment, keyword, name, number, symbol, IsPiece, IsRun, word_byte}
use Rattle.sp_lexer.specs.Tokens.{IsDivision, IsTokens, Placed, token_of}
use Rattle.sp_plain_names.specs.Names.{IsPlain}

-- a name is plain, where the token is one
abbrev pub IsPlainToken : TokenKind → Type 0
IsPlainToken (kind.Name n) = IsPlain n
IsPlainToken k = Unit {0}

abbrev pub ArePlainTokens : List Token → Type 0
ArePlainTokens [] = Unit {0}
ArePlainTokens (t ∷ ts) = IsPlainToken t.kind × ArePlainTokens ts

-- what each entry is, all are
all_from : (P : ℕ → Type 0) (xs : List ℕ) → ((k : ℕ) → k < length xs → P (get_or xs k 0)) → All P xs
all_from P [] h = All-nil P
all_from P (x ∷ xs) h = All-cons P x xs (h 0 (omega arith)) (all_from P xs (λ k below. h (suc k) (omega arith)))

range_plain : (text : List ℕ) (start end : ℕ) → IsRun text word_byte start end → IsPlain (slice_range text start end)
range_plain text start end run =
    all_from (λ b. IsTrue (word_byte b)) (slice_range text start end) (λ k below.
    let within : k < end - start = omega (arith, length-take (end - start) (drop start text), below) in
    let place : start + k < end = omega arith in
    let same : get_or (slice_range text start end) k 0 ≡ get_or text (start + k) 0 = get_or-take (end - start) (drop start text) k 0 within ∙ get_or-drop start text k 0 in
    rw same (run.each (start + k) (omega arith) place))

piece_names : (text : List ℕ) (q : Piece) (start from to : ℕ) (others : List Token) → IsPiece text q from to → ArePlainTokens others
    → ArePlainTokens (cons_option (token_of (record { piece = q; start = start; end = to })) others)
piece_names text blank start from to others h rest = rest
piece_names text comment start from to others h rest = rest
piece_names text (keyword k) start from to others h rest = (tt, rest)
piece_names text (name n) start from to others h rest = (subst IsPlain h.1 (range_plain text from to h.0.bytes), rest)
piece_names text (number n) start from to others h rest = (tt, rest)
piece_names text (symbol s) start from to others h rest = (tt, rest)

division_names : (text : List ℕ) (pieces : List Placed) (from to : ℕ) → IsDivision text pieces from to → ArePlainTokens (filter_map token_of pieces)
division_names text [] from to d = tt
division_names text (p ∷ rest) from to d =
    piece_names text p.piece p.start from p.end (filter_map token_of rest) d.1.piece (division_names text rest p.end to d.2)

pub tokens_plain : (text : List ℕ) (tokens : List Token) → IsTokens text tokens → ArePlainTokens tokens
tokens_plain text tokens h = subst ArePlainTokens h.tokens_are (division_names text h.pieces 0 (length text) h.division)

pub plain_at : (ts : List Token) (i : ℕ) (x : List ℕ) (s : Span) → ArePlainTokens ts → slice_get ts i ≡ Some (record { kind = kind.Name x; span = s }) → IsPlain x
plain_at [] i x s h e = absurd cc
plain_at (t ∷ ts) zero x s h e =
    let same : t ≡ record { kind = kind.Name x; span = s } = cc in
    subst (λ (u : Token). IsPlainToken u.kind) same h.0
plain_at (t ∷ ts) (suc i) x s h e = plain_at ts i x s h.1 e
