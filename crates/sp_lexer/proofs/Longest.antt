-- Which pieces are the longest at their place.
use Rattle.std.proofs.Common.{◌≡◌, ℕ, ◌+◌, ◌-◌, ◌<◌, ◌≤◌, inl, inr, IsTrue, Bool, List, length, slice_index, refl, sym, ap, ◌∙◌, arith}
use Rattle.std.proofs.lemmas.Bool.{cases_lt}
use Rattle.sp_text.specs.Classes.{letter_byte, digit_byte}
use Rattle.sp_lexer.specs.Spelling.{symbol_text}
use Rattle.sp_lexer.specs.Pieces.{Piece, blank, comment, keyword, name, number, symbol, word_byte, IsPiece, IsRun, IsWord, IsComment, IsLongest}
use Rattle.sp_lexer.specs.Scans.{IsWholeRun}
use Rattle.sp_lexer.proofs.Classes.{Class, spaces, letters, digits, dollar, others, class_of, class_of-space, class_of-letter, class_of-digit, class_of-dollar, class_of-symbol}
use Rattle.sp_lexer.proofs.Ranges.{range-first}

-- the class of a piece's first byte
abbrev pub class_of_piece : Piece → Class
class_of_piece blank = spaces
class_of_piece comment = dollar
class_of_piece (keyword k) = letters
class_of_piece (name n) = letters
class_of_piece (number n) = digits
class_of_piece (symbol s) = others

module _ (text : List ℕ) where
  pub piece_span : (p : Piece) (i j : ℕ) → IsPiece text p i j → (i < j) × (j ≤ length text)
  piece_span blank i j h = (omega (arith, h.0), h.1)
  piece_span comment i j h = (omega (arith, h.room), h.within)
  piece_span (keyword k) i j h = (h.0.bytes.some, h.0.bytes.within)
  piece_span (name n) i j h = (h.0.bytes.some, h.0.bytes.within)
  piece_span (number n) i j h = (h.0.some, h.0.within)
  piece_span (symbol s) i j h = (h.0, h.1)

  pub begins : (p : Piece) (i j : ℕ) → IsPiece text p i j → class_of (slice_index text i) ≡ class_of_piece p
  begins blank i j h = class_of-space _ h.2
  begins comment i j h = class_of-dollar _ h.opens.dollar
  begins (keyword k) i j h = class_of-letter _ h.0.letter
  begins (name n) i j h = class_of-letter _ h.0.letter
  begins (number n) i j h = class_of-digit _ (h.0.each i (omega arith) h.0.some)
  begins (symbol s) i j h =
      let e : slice_index (symbol_text s) 0 ≡ slice_index text i = ap (λ xs. slice_index xs 0) (sym h.2) ∙ range-first text i j h.0 in
      ap class_of (sym e) ∙ class_of-symbol s

  -- two pieces at one place begin alike
  pub alike : (p q : Piece) (i j m : ℕ) → IsPiece text p i j → IsPiece text q i m → class_of_piece p ≡ class_of_piece q
  alike p q i j m h k = sym (begins p i j h) ∙ begins q i m k

  pub word_of : (q : Piece) (i m : ℕ) → letters ≡ class_of_piece q → IsPiece text q i m → IsWord text i m
  word_of blank i m e h = cc
  word_of comment i m e h = cc
  word_of (keyword k) i m e h = h.0
  word_of (name n) i m e h = h.0
  word_of (number n) i m e h = cc
  word_of (symbol s) i m e h = cc

  pub digits_of : (q : Piece) (i m : ℕ) → digits ≡ class_of_piece q → IsPiece text q i m → IsRun text digit_byte i m
  digits_of blank i m e h = cc
  digits_of comment i m e h = cc
  digits_of (keyword k) i m e h = cc
  digits_of (name n) i m e h = cc
  digits_of (number n) i m e h = h.0
  digits_of (symbol s) i m e h = cc

  pub blank_of : (q : Piece) (i m : ℕ) → spaces ≡ class_of_piece q → IsPiece text q i m → m ≡ i + 1
  blank_of blank i m e h = h.0
  blank_of comment i m e h = cc
  blank_of (keyword k) i m e h = cc
  blank_of (name n) i m e h = cc
  blank_of (number n) i m e h = cc
  blank_of (symbol s) i m e h = cc

  pub comment_of : (q : Piece) (i m : ℕ) → dollar ≡ class_of_piece q → IsPiece text q i m → IsComment text i m
  comment_of blank i m e h = cc
  comment_of comment i m e h = h
  comment_of (keyword k) i m e h = cc
  comment_of (name n) i m e h = cc
  comment_of (number n) i m e h = cc
  comment_of (symbol s) i m e h = cc

  run_ends : (class : ℕ → Bool) (i j m : ℕ) → IsWholeRun text class i j → IsRun text class i m → m ≤ j
  run_ends class i j m w r = elim (cases_lt j m) [
    | inl lt ↦ absurd (w.stops (omega (arith, r.within)) (r.each j w.onwards lt))
    | inr le ↦ le
  ]

  -- a whole run that begins with a byte of its class has a byte
  pub run_of : (class : ℕ → Bool) (i j : ℕ) → i < length text → IsTrue (class (slice_index text i)) → IsWholeRun text class i j → IsRun text class i j
  run_of class i j h b w = record {
    some = elim (cases_lt i j) [
      | inl lt ↦ lt
      | inr le ↦ (let e : j ≡ i = omega (arith, w.onwards) in absurd (w.stops (omega arith) (rw e b)))
    ];
    within = w.within;
    each = w.each;
  }

  pub word_at : (i j : ℕ) → i < length text → IsTrue (letter_byte (slice_index text i)) → IsWholeRun text word_byte i j → IsWord text i j
  word_at i j h b w = record { bytes = run_of word_byte i j h (rw b refl) w; letter = b }

  pub word_longest : (p : Piece) (i j : ℕ) → IsPiece text p i j → letters ≡ class_of_piece p → IsWholeRun text word_byte i j → IsLongest text p i j
  word_longest p i j h e w = record {
    piece = h;
    longest = λ q m k. run_ends word_byte i j m w (word_of q i m (e ∙ alike p q i j m h k) k).bytes;
  }

  pub number_longest : (n i j : ℕ) → IsPiece text (number n) i j → IsWholeRun text digit_byte i j → IsLongest text (number n) i j
  number_longest n i j h w = record {
    piece = h;
    longest = λ q m k. run_ends digit_byte i j m w (digits_of q i m (alike (number n) q i j m h k) k);
  }

  pub blank_longest : (i j : ℕ) → IsPiece text blank i j → IsLongest text blank i j
  blank_longest i j h = record {
    piece = h;
    longest = λ q m k. let e = blank_of q i m (alike blank q i j m h k) k in omega (arith, h.0);
  }
