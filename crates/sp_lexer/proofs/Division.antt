-- A division with one piece more, and the tokens that it has.
use Rattle.std.proofs.Common.{◌≡◌, ℕ, ◌<◌, List, [], ◌∷◌, ◌++◌, length, Option, Some, None, filter_map, refl, sym, ap, ◌∙◌, arith, append-nil}
use Rattle.std.specs.List.{cons_option}
use Rattle.std.specs.Option.{option_map, is_some, IsSome}
use Rattle.std.proofs.lemmas.List.{length_push}
use Rattle.std.proofs.lemmas.List.Elements.{All-push, filter_map-append}
use Rattle.sp_text.specs.declared.token.Token.{Token}
use Rattle.sp_text.specs.declared.token.TokenKind.{TokenKind}
use Rattle.sp_lexer.specs.Pieces.{Piece, IsLongest}
use Rattle.sp_lexer.specs.Tokens.{Placed, IsDivision, IsInRange, kind_of, token_of, most_tokens, HasTokens}

abbrev pub placed : Piece → ℕ → ℕ → Placed
placed p start end = record { piece = p; start = start; end = end }

abbrev pub token : TokenKind → ℕ → ℕ → Token
token k start end = record { kind = k; span = record { start = start; end = end } }

module _ (text : List ℕ) where
  division_more : (ps : List Placed) (i j k : ℕ) (p : Piece) → IsDivision text ps i j → IsLongest text p j k → IsDivision text (ps ++ placed p j k ∷ []) i k
  division_more [] i j k p d l = (sym d, rw d l, refl)
  division_more (q ∷ ps) i j k p d l = (d.0, d.1, division_more ps q.end j k p d.2 l)

  tokens_more : (ps : List Placed) (p : Placed) (o : Option Token) → token_of p ≡ o → filter_map token_of (ps ++ p ∷ []) ≡ filter_map token_of ps ++ cons_option o []
  tokens_more ps p o e = filter_map-append token_of ps (p ∷ []) ∙ ap (λ o. filter_map token_of ps ++ cons_option o []) e

  -- after a blank or a comment
  pub gap_added : (ts : List Token) (i j : ℕ) (p : Piece) → HasTokens text ts i → IsLongest text p i j → IsInRange p → kind_of p ≡ None → HasTokens text ts j
  gap_added ts i j p h l r e = record {
    pieces = h.pieces ++ placed p i j ∷ [];
    division = division_more h.pieces 0 i j p h.division l;
    in_range = All-push (λ q. IsInRange q.piece) h.pieces (placed p i j) h.in_range r;
    tokens_are = tokens_more h.pieces (placed p i j) None (ap (λ k. option_map (λ k. token k i j) k) e) ∙ append-nil (filter_map token_of h.pieces) ∙ h.tokens_are;
    within = h.within;
  }

  -- after a token
  pub token_added : (ts : List Token) (i j : ℕ) (p : Piece) (k : TokenKind) → HasTokens text ts i → IsLongest text p i j → IsInRange p → kind_of p ≡ Some k
      → length ts < most_tokens → HasTokens text (ts ++ token k i j ∷ []) j
  token_added ts i j p k h l r e room = record {
    pieces = h.pieces ++ placed p i j ∷ [];
    division = division_more h.pieces 0 i j p h.division l;
    in_range = All-push (λ q. IsInRange q.piece) h.pieces (placed p i j) h.in_range r;
    tokens_are = tokens_more h.pieces (placed p i j) (Some (token k i j)) (ap (λ k. option_map (λ k. token k i j) k) e) ∙ ap (λ (us : List Token). us ++ token k i j ∷ []) h.tokens_are;
    within = omega (arith, length_push ts (token k i j));
  }

pub IsSome-from_equal : {X : Type 0} (o : Option X) (x : X) → o ≡ Some x → IsSome o
IsSome-from_equal o x e = ap is_some e
