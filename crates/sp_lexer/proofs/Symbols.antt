-- Symbols have one byte or two, and the longest is looked for first.
use Rattle.std.proofs.Common.{◌≡◌, ◌≢◌, ℕ, ◌+◌, ◌-◌, ◌<◌, ◌≤◌, ◌⊎◌, inl, inr, List, [], ◌∷◌, length, slice_index, slice_range, refl, sym, ap, ◌∙◌, arith}
use Rattle.std.proofs.lemmas.Bool.{both_ways}
use Rattle.sp_text.specs.declared.token.Symbol.{Symbol}
use Rattle.sp_text.specs.declared.token.Symbol.TheVariants as mark
use Rattle.sp_lexer.specs.Spelling.{symbol_text}
use Rattle.sp_lexer.specs.Pieces.{Piece, blank, comment, keyword, name, number, symbol, IsPiece, IsOpenComment, IsLongest}
use Rattle.sp_lexer.specs.Scans.{IsOther, IsDoubleAt}
use Rattle.sp_lexer.proofs.Ranges.{range-length, range-one, range-two}

symbol_size : (s : Symbol) → (length (symbol_text s) ≡ 1) ⊎ (length (symbol_text s) ≡ 2)
symbol_size s = elim s as (λ s. (length (symbol_text s) ≡ 1) ⊎ (length (symbol_text s) ≡ 2)) [
  | mark.NotEqual ↦ inr refl
  | mark.LessOrEqual ↦ inr refl
  | mark.GreaterOrEqual ↦ inr refl
  | mark.Arrow ↦ inr refl
  | _ ↦ inl refl
]

module _ (text : List ℕ) (start : ℕ) where
  -- a symbol that stands at start is spelled by its one byte, or its two
  abbrev IsSingle : Symbol → ℕ → Type 0
  IsSingle s end = (end ≡ start + 1) × (symbol_text s ≡ slice_index text start ∷ [])

  abbrev IsDouble : Symbol → ℕ → Type 0
  IsDouble s end = (end ≡ start + 2) × IsDoubleAt text start s

  symbol_cases : (s : Symbol) (end : ℕ) → IsPiece text (symbol s) start end → IsSingle s end ⊎ IsDouble s end
  symbol_cases s end h =
      let size : end - start ≡ length (symbol_text s) = sym (range-length text start end h.1) ∙ ap length h.2 in
      elim (symbol_size s) [
        | inl one ↦ (let e : end ≡ start + 1 = omega (arith, h.0) in
            inl (e, sym h.2 ∙ ap (λ n. slice_range text start n) e ∙ range-one text start (omega (arith, h.0, h.1))))
        | inr two ↦ (let e : end ≡ start + 2 = omega (arith, h.0) in
            let w : start + 1 < length text = omega (arith, h.0, h.1) in
            inr (e, record { within = w; spelled = sym h.2 ∙ ap (λ n. slice_range text start n) e ∙ range-two text start w }))
      ]

  other_symbol : IsOther text start → (P : Type 0) (q : Piece) (m : ℕ) → IsPiece text q start m → ((s : Symbol) → IsSingle s m ⊎ IsDouble s m → P) → P
  other_symbol o P blank m h f = absurd (both_ways _ o.no_space h.2)
  other_symbol o P comment m h f = absurd (o.no_comment h.opens)
  other_symbol o P (keyword k) m h f = absurd (both_ways _ o.no_letter h.0.letter)
  other_symbol o P (name n) m h f = absurd (both_ways _ o.no_letter h.0.letter)
  other_symbol o P (number n) m h f = absurd (both_ways _ o.no_digit (h.0.each start (omega arith) h.0.some))
  other_symbol o P (symbol s) m h f = f s (symbol_cases s m h)

  pub double_longest : IsOther text start → (s : Symbol) → IsDoubleAt text start s → IsLongest text (symbol s) start (start + 2)
  double_longest o s d = record {
    piece = (omega arith, omega (arith, d.within), range-two text start d.within ∙ sym d.spelled);
    longest = λ q m k. other_symbol o (m ≤ start + 2) q m k (λ t c. elim c [ inl one ↦ omega (arith, one.0) | inr two ↦ omega (arith, two.0) ]);
  }

  pub single_longest : IsOther text start → ((s : Symbol) → ¬ IsDoubleAt text start s) → (s : Symbol) → start < length text → symbol_text s ≡ slice_index text start ∷ []
      → IsLongest text (symbol s) start (start + 1)
  single_longest o n s w e = record {
    piece = (omega arith, omega arith, range-one text start w ∙ sym e);
    longest = λ q m k. other_symbol o (m ≤ start + 1) q m k (λ t c. elim c [ inl one ↦ omega (arith, one.0) | inr two ↦ absurd (n t two.1) ]);
  }

  pub no_piece : IsOther text start → ((s : Symbol) → ¬ IsDoubleAt text start s) → ((s : Symbol) → symbol_text s ≢ slice_index text start ∷ []) → (q : Piece) (m : ℕ) → ¬ IsPiece text q start m
  no_piece o n none q m h = other_symbol o ⊥ q m h (λ t c. elim c [ inl one ↦ none t one.1 | inr two ↦ n t two.1 ])

  pub no_open : IsOther text start → ¬ IsOpenComment text start
  no_open o h = o.no_comment h.opens
