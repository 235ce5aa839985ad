-- What is answered with tokens or with a fault is the one answer of its text.
use Rattle.std.proofs.Common.{◌≡◌, ℕ, ◌⊎◌, inl, inr, List, [], ◌∷◌, Result, Ok, Err, MatchResult, filter_map, sym, arith}
use Rattle.std.specs.List.{cons_option, All}
use Rattle.std.proofs.lemmas.Int.{ints}
use Rattle.std.proofs.lemmas.List.Elements.{All-nil, All-cons}
use Rattle.sp_text.specs.declared.token.Token.{Token}
use Rattle.sp_text.specs.declared.fault.TextFault.{TextFault}
use Rattle.sp_text.specs.declared.fault.TextFault.TheVariants as fault
use Rattle.sp_lexer.specs.Pieces.{Piece, blank, comment, keyword, name, number, symbol}
use Rattle.sp_lexer.specs.Tokens.{Placed, token_of, IsTokens, IsUnsigned}
use Rattle.sp_lexer.specs.Faults.{IsFirstFault}
use Rattle.sp_lexer.proofs.Unique.{same_tokens, same_first_fault, no_fault_with_tokens}

module _ (text : List ℕ) {V : Type 0} (items : V → List Token) where
  abbrev pub IsReading : Result V TextFault → Type 0
  IsReading r = MatchResult r (λ v. IsTokens text (items v)) (λ f. (f ≡ fault.Memory) ⊎ IsFirstFault text f)

  pub answered_with_tokens : (r : Result V TextFault) → IsReading r → (tokens : List Token) → IsTokens text tokens → MatchResult r (λ v. items v ≡ tokens) (λ f. f ≡ fault.Memory)
  answered_with_tokens (Ok v) h tokens t = same_tokens text (items v) tokens h t
  answered_with_tokens (Err f) h tokens t = elim h [ inl memory ↦ memory | inr first ↦ absurd (no_fault_with_tokens text tokens f t first) ]

  pub refused_with_fault : (r : Result V TextFault) → IsReading r → (first : TextFault) → IsFirstFault text first → MatchResult r (λ _. ⊥) (λ f. (f ≡ fault.Memory) ⊎ (f ≡ first))
  refused_with_fault (Ok v) h first t = no_fault_with_tokens text (items v) first h t
  refused_with_fault (Err f) h first t = elim h [ inl memory ↦ inl memory | inr found ↦ inr (same_first_fault text f first found t) ]

unsigned_more : (p : Piece) (start end : ℕ) (ts : List Token) → All (λ t. IsUnsigned t.kind) ts
    → All (λ t. IsUnsigned t.kind) (cons_option (token_of (record { piece = p; start = start; end = end })) ts)
unsigned_more blank start end ts h = h
unsigned_more comment start end ts h = h
unsigned_more (keyword k) start end ts h = All-cons (λ t. IsUnsigned t.kind) _ ts tt h
unsigned_more (name n) start end ts h = All-cons (λ t. IsUnsigned t.kind) _ ts tt h
unsigned_more (number n) start end ts h = All-cons (λ t. IsUnsigned t.kind) _ ts (omega (arith, ints)) h
unsigned_more (symbol s) start end ts h = All-cons (λ t. IsUnsigned t.kind) _ ts tt h

unsigned_all : (ps : List Placed) → All (λ t. IsUnsigned t.kind) (filter_map token_of ps)
unsigned_all [] = All-nil (λ t. IsUnsigned t.kind)
unsigned_all (p ∷ ps) = unsigned_more p.piece p.start p.end (filter_map token_of ps) (unsigned_all ps)

-- no token of a text is a negative number
pub tokens_unsigned : (text : List ℕ) (ts : List Token) → IsTokens text ts → All (λ t. IsUnsigned t.kind) ts
tokens_unsigned text ts h = rw (sym h.tokens_are) (unsigned_all h.pieces)
