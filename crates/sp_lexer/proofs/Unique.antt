-- A text is divided in one way at most, has at most one list of tokens and at most one first fault, and never both.
use Rattle.std.proofs.Common.{◌≡◌, ℕ, ◌+◌, ◌-◌, ◌<◌, ◌≤◌, ◌⊎◌, inl, inr, List, [], ◌∷◌, ◌++◌, length, Option, Some, None, filter_map, find, refl, sym, ap, ◌∙◌, subst, arith, append-nil}
use Rattle.std.specs.List.{cons_option, All}
use Rattle.std.specs.Option.{option_map, IsSome}
use Rattle.std.specs.Str.{bytes_eq}
use Rattle.std.proofs.lemmas.List.{length-append, get_or_at}
use Rattle.std.proofs.lemmas.List.Elements.{filter_map-append}
use Rattle.sp_text.specs.declared.token.Token.{Token}
use Rattle.sp_text.specs.declared.token.Keyword.{Keyword}
use Rattle.sp_text.specs.declared.token.Keyword.TheVariants as word
use Rattle.sp_text.specs.declared.token.Symbol.{Symbol}
use Rattle.sp_text.specs.declared.token.Symbol.TheVariants as mark
use Rattle.sp_text.specs.declared.fault.TextFault.{TextFault}
use Rattle.sp_text.specs.declared.fault.Rule.TheVariants as rule
use Rattle.sp_lexer.specs.declared.spelling.TheConstants.{KEYWORDS}
use Rattle.sp_lexer.specs.Spelling.{keyword_text, symbol_text}
use Rattle.sp_lexer.specs.Pieces.{Piece, blank, comment, keyword, name, number, symbol, IsPiece, IsOpenComment, IsLongest}
use Rattle.sp_lexer.specs.Tokens.{Placed, IsDivision, IsInRange, kind_of, token_of, greatest_number, most_tokens, HasTokens, IsTokens}
use Rattle.sp_lexer.specs.Faults.{malformed, too_many, HasFault, bad_byte, open_comment, too_large, one_more, IsFirstFault}
use Rattle.sp_lexer.proofs.Classes.{class_of-dollar}
use Rattle.sp_lexer.proofs.Division.{token}
use Rattle.sp_lexer.proofs.Longest.{class_of_piece, piece_span, begins, alike, comment_of}

-- a keyword is known by its bytes, and so is a symbol
known_keyword : List ℕ → Option Keyword
known_keyword bytes = find (λ k. bytes_eq (keyword_text k) bytes) KEYWORDS

keyword_known : (k : Keyword) → known_keyword (keyword_text k) ≡ Some k
unfolding known_keyword
keyword_known k = elim k as (λ k. known_keyword (keyword_text k) ≡ Some k) [ word.Module ↦ refl | _ ↦ refl ]

same_keyword : (j k : Keyword) → keyword_text j ≡ keyword_text k → j ≡ k
same_keyword j k e = let p : Some j ≡ Some k = sym (keyword_known j) ∙ ap known_keyword e ∙ keyword_known k in cc

symbols : List Symbol
symbols = mark.LeftParenthesis ∷ mark.RightParenthesis ∷ mark.LeftBrace ∷ mark.RightBrace ∷ mark.Comma ∷ mark.Semicolon ∷ mark.Colon ∷ mark.Equal ∷ mark.NotEqual ∷ mark.Less ∷ mark.LessOrEqual ∷ mark.Greater ∷ mark.GreaterOrEqual ∷ mark.Plus ∷ mark.Minus ∷ mark.Star ∷ mark.Arrow ∷ mark.Quote ∷ mark.Question ∷ []

known_symbol : List ℕ → Option Symbol
known_symbol bytes = find (λ s. bytes_eq (symbol_text s) bytes) symbols

symbol_known : (s : Symbol) → known_symbol (symbol_text s) ≡ Some s
unfolding known_symbol symbols
symbol_known s = elim s as (λ s. known_symbol (symbol_text s) ≡ Some s) [ mark.LeftParenthesis ↦ refl | _ ↦ refl ]

same_symbol : (s t : Symbol) → symbol_text s ≡ symbol_text t → s ≡ t
same_symbol s t e = let p : Some s ≡ Some t = sym (symbol_known s) ∙ ap known_symbol e ∙ symbol_known t in cc

some_token : (p : Placed) (rest : List Placed) → IsSome (kind_of p.piece) → 1 ≤ length (filter_map token_of (p ∷ rest))
some_token p rest s = elim (kind_of p.piece) as (λ o. IsSome o → 1 ≤ length (cons_option (option_map (λ k. token k p.start p.end) o) (filter_map token_of rest))) [
  | Some k ↦ (λ _. omega arith)
  | None ↦ (λ e. cc)
] s

in_range_at : (ps : List Placed) (p : Placed) (rest : List Placed) → All (λ q. IsInRange q.piece) (ps ++ p ∷ rest) → IsInRange p.piece
in_range_at ps p rest h = rw (get_or_at ps p rest p (length ps) refl) at (h (length ps) p (omega (arith, length-append ps (p ∷ rest))))

module _ (text : List ℕ) where
  -- one piece stands from a place on and before another
  same_piece : (p q : Piece) (i j : ℕ) → class_of_piece p ≡ class_of_piece q → IsPiece text p i j → IsPiece text q i j → p ≡ q
  same_piece blank blank i j e h k = refl
  same_piece comment comment i j e h k = refl
  same_piece (keyword a) (keyword b) i j e h k = ap keyword (same_keyword a b (sym h.1 ∙ k.1))
  same_piece (keyword a) (name b) i j e h k = absurd (k.2 a (sym k.1 ∙ h.1))
  same_piece (name a) (keyword b) i j e h k = absurd (h.2 b (sym h.1 ∙ k.1))
  same_piece (name a) (name b) i j e h k = ap name (sym h.1 ∙ k.1)
  same_piece (number a) (number b) i j e h k = ap number (sym h.1 ∙ k.1)
  same_piece (symbol a) (symbol b) i j e h k = ap symbol (same_symbol a b (sym h.2 ∙ k.2))
  same_piece p q i j e h k = cc

  pub record Same (p q : Piece) (j k : ℕ) : Type 0 where
    pub piece : p ≡ q
    pub end : j ≡ k

  pub same_longest : (p q : Piece) (i j k : ℕ) → IsLongest text p i j → IsLongest text q i k → Same p q j k
  same_longest p q i j k l m =
      let e : j ≡ k = omega (arith, m.longest p j l.piece, l.longest q k m.piece) in
      let h : IsPiece text q i j = rw e m.piece in
      record { piece = same_piece p q i j (alike text p q i j j l.piece h) l.piece h; end = e }

  same_placed : (p q : Placed) (i : ℕ) → p.start ≡ i → q.start ≡ i → IsLongest text p.piece i p.end → IsLongest text q.piece i q.end → p ≡ q
  same_placed p q i a b l m =
      let e = same_longest p.piece q.piece i p.end q.end l m in
      ap (λ (x : Piece). let r : Placed = record { piece = x; start = p.start; end = p.end } in r) e.piece
      ∙ ap (λ (x : ℕ). let r : Placed = record { piece = q.piece; start = x; end = p.end } in r) (a ∙ sym b)
      ∙ ap (λ (x : ℕ). let r : Placed = record { piece = q.piece; start = q.start; end = x } in r) e.end

  -- the second division goes on where the first ends
  pub record GoesOn (ps qs : List Placed) (j k : ℕ) : Type 0 where
    pub rest : List Placed
    pub whole : qs ≡ ps ++ rest
    pub division : IsDivision text rest j k

  goes_on_cons : (p : Placed) (ps qs : List Placed) (j k : ℕ) → GoesOn ps qs j k → GoesOn (p ∷ ps) (p ∷ qs) j k
  goes_on_cons p ps qs j k g = record { rest = g.rest; whole = ap (λ (xs : List Placed). p ∷ xs) g.whole; division = g.division }

  -- of two divisions from one place, one goes on where the other ends
  compare : (ps qs : List Placed) (i j k : ℕ) → IsDivision text ps i j → IsDivision text qs i k → GoesOn ps qs j k ⊎ GoesOn qs ps k j
  compare [] qs i j k d e = inl (record { rest = qs; whole = refl; division = subst (λ (x : ℕ). IsDivision text qs x k) d e })
  compare (p ∷ ps) [] i j k d e = inr (record { rest = p ∷ ps; whole = refl; division = subst (λ (x : ℕ). IsDivision text (p ∷ ps) x j) e d })
  compare (p ∷ ps) (q ∷ qs) i j k d e =
      let same : p ≡ q = same_placed p q i d.0 e.0 d.1 e.1 in
      let f : IsDivision text qs p.end k = subst (λ (x : Placed). IsDivision text qs x.end k) (sym same) e.2 in
      elim (compare ps qs p.end j k d.2 f) [
        | inl g ↦ inl (subst (λ (x : Placed). GoesOn (p ∷ ps) (x ∷ qs) j k) same (goes_on_cons p ps qs j k g))
        | inr g ↦ inr (subst (λ (x : Placed). GoesOn (x ∷ qs) (p ∷ ps) k j) same (goes_on_cons p qs ps k j g))
      ]

  onwards : (ps : List Placed) (i j : ℕ) → IsDivision text ps i j → i ≤ j
  onwards [] i j d = omega (arith, d)
  onwards (p ∷ ps) i j d = omega (arith, piece_span text p.piece i p.end d.1.piece, onwards ps p.end j d.2)

  nothing : (ps : List Placed) (i j : ℕ) → j ≤ i → IsDivision text ps i j → ps ≡ []
  nothing [] i j h d = refl
  nothing (p ∷ ps) i j h d = absurd (omega (arith, piece_span text p.piece i p.end d.1.piece, onwards ps p.end j d.2))

  -- a fault stands inside the text
  fault_inside : (count i : ℕ) (f : TextFault) → HasFault text count i f → i < length text
  fault_inside count i f (bad_byte w n o) = w
  fault_inside count i f (open_comment o) = omega (arith, o.opens.within)
  fault_inside count i f (too_large n end l g) = omega (arith, piece_span text (number n) i end l.piece)
  fault_inside count i f (one_more p end l s r e) = omega (arith, piece_span text p i end l.piece)

  -- no piece stands where a comment begins that has no end
  open_no_piece : (p : Piece) (i j : ℕ) → IsOpenComment text i → ¬ IsPiece text p i j
  open_no_piece p i j o h =
      let c = comment_of text p i j (sym (class_of-dollar _ o.opens.dollar) ∙ begins text p i j h) h in
      o.unclosed (j - 1) (omega (arith, c.room)) (omega (arith, c.room, c.within)) c.closes

  -- no token of the division stands where there is a fault
  fault_stops : (count i : ℕ) (f : TextFault) → HasFault text count i f → (p : Piece) (j : ℕ) → IsLongest text p i j → IsInRange p → (IsSome (kind_of p) → count < most_tokens) → ⊥
  fault_stops count i f (bad_byte w n o) p j l r room = n p j l.piece
  fault_stops count i f (open_comment o) p j l r room = open_no_piece p i j o l.piece
  fault_stops count i f (too_large n end m g) p j l r room =
      let large : n ≤ greatest_number = rw (same_longest p (number n) i j end l m).piece at r in
      omega (arith, large, g)
  fault_stops count i f (one_more q end m s r' e) p j l r room =
      let some : IsSome (kind_of p) = rw (same_longest p q i j end l m).piece s in
      omega (arith, room some, e)

  same_fault : (count i : ℕ) (f g : TextFault) → HasFault text count i f → HasFault text count i g → f ≡ g
  same_fault count i f g (bad_byte w n o) (bad_byte w' n' o') = refl
  same_fault count i f g (bad_byte w n o) (open_comment o') = absurd (o o')
  same_fault count i f g (bad_byte w n o) (too_large m end l v) = absurd (n (number m) end l.piece)
  same_fault count i f g (bad_byte w n o) (one_more p end l s r e) = absurd (n p end l.piece)
  same_fault count i f g (open_comment o) (bad_byte w n o') = absurd (o' o)
  same_fault count i f g (open_comment o) (open_comment o') = refl
  same_fault count i f g (open_comment o) (too_large m end l v) = absurd (open_no_piece (number m) i end o l.piece)
  same_fault count i f g (open_comment o) (one_more p end l s r e) = absurd (open_no_piece p i end o l.piece)
  same_fault count i f g (too_large m end l v) (bad_byte w n o) = absurd (n (number m) end l.piece)
  same_fault count i f g (too_large m end l v) (open_comment o) = absurd (open_no_piece (number m) i end o l.piece)
  same_fault count i f g (too_large m end l v) (too_large m' end' l' v') = ap (λ (x : ℕ). malformed i x rule.NumberTooLarge) (same_longest (number m) (number m') i end end' l l').end
  same_fault count i f g (too_large m end l v) (one_more p end' l' s r e) =
      let large : m ≤ greatest_number = rw (same_longest p (number m) i end' end l' l).piece at r in
      absurd (omega (arith, large, v))
  same_fault count i f g (one_more p end l s r e) (bad_byte w n o) = absurd (n p end l.piece)
  same_fault count i f g (one_more p end l s r e) (open_comment o) = absurd (open_no_piece p i end o l.piece)
  same_fault count i f g (one_more p end l s r e) (too_large m end' l' v) =
      let large : m ≤ greatest_number = rw (same_longest p (number m) i end end' l l').piece at r in
      absurd (omega (arith, large, v))
  same_fault count i f g (one_more p end l s r e) (one_more p' end' l' s' r' e') = ap (λ (x : ℕ). too_many i x) (same_longest p p' i end end' l l').end

  -- as many tokens as there may be leave no room for one more
  room_for : (ps rest : List Placed) (p : Placed) → length (filter_map token_of (ps ++ p ∷ rest)) ≤ most_tokens → IsSome (kind_of p.piece) → length (filter_map token_of ps) < most_tokens
  room_for ps rest p h s =
      let e : length (filter_map token_of (ps ++ p ∷ rest)) ≡ length (filter_map token_of ps) + length (filter_map token_of (p ∷ rest)) =
      ap length (filter_map-append token_of ps (p ∷ rest)) ∙ length-append (filter_map token_of ps) (filter_map token_of (p ∷ rest)) in
      omega (arith, e, h, some_token p rest s)

  -- a division that goes on from a fault ends there
  stops_at : (ts us : List Token) (j k : ℕ) (f : TextFault) (a : HasTokens text ts j) (b : HasTokens text us k) → HasFault text (length ts) j f → GoesOn a.pieces b.pieces j k → (j ≡ k) × (ts ≡ us)
  stops_at ts us j k f a b h g = go g.rest g.whole g.division
    where
      go : (rest : List Placed) → b.pieces ≡ a.pieces ++ rest → IsDivision text rest j k → (j ≡ k) × (ts ≡ us)
      go [] w d = (d, sym a.tokens_are ∙ ap (λ ps. filter_map token_of ps) (sym (append-nil a.pieces) ∙ sym w) ∙ b.tokens_are)
      go (p ∷ rest) w d =
          let r : IsInRange p.piece = in_range_at a.pieces p rest (rw w at b.in_range) in
          let few : length (filter_map token_of b.pieces) ≤ most_tokens = rw b.tokens_are b.within in
          let room : IsSome (kind_of p.piece) → length ts < most_tokens = λ s. rw (sym a.tokens_are) (room_for a.pieces rest p (rw w at few) s) in
          absurd (fault_stops (length ts) j f h p.piece p.end d.1 r room)

  -- a text is divided in one way at most
  pub same_division : (ps qs : List Placed) → IsDivision text ps 0 (length text) → IsDivision text qs 0 (length text) → ps ≡ qs
  same_division ps qs d e =
      let same : (rest xs ys : List Placed) → ys ≡ xs ++ rest → IsDivision text rest (length text) (length text) → xs ≡ ys =
      λ rest xs ys w f. sym (w ∙ ap (λ zs. xs ++ zs) (nothing rest (length text) (length text) (omega arith) f) ∙ append-nil xs) in
      elim (compare ps qs 0 (length text) (length text) d e) [
        | inl g ↦ same g.rest ps qs g.whole g.division
        | inr g ↦ sym (same g.rest qs ps g.whole g.division)
      ]

  -- so it has at most one list of tokens
  pub same_tokens : (ts us : List Token) → IsTokens text ts → IsTokens text us → ts ≡ us
  same_tokens ts us a b = sym a.tokens_are ∙ ap (λ ps. filter_map token_of ps) (same_division a.pieces b.pieces a.division b.division) ∙ b.tokens_are

  -- at most one first fault
  pub same_first_fault : (f g : TextFault) → IsFirstFault text f → IsFirstFault text g → f ≡ g
  same_first_fault f g a b =
      let met : (a.place ≡ b.place) × (a.tokens ≡ b.tokens) = elim (compare a.before.pieces b.before.pieces 0 a.place b.place a.before.division b.before.division) [
        | inl go ↦ stops_at a.tokens b.tokens a.place b.place f a.before b.before a.here go
        | inr go ↦ (let back = stops_at b.tokens a.tokens b.place a.place g b.before a.before b.here go in (sym back.0, sym back.1))
      ] in
      let here : HasFault text (length b.tokens) b.place f = rw (met.1, met.0) at a.here in
      same_fault (length b.tokens) b.place f g here b.here

  -- and never both
  pub no_fault_with_tokens : (ts : List Token) (f : TextFault) → IsTokens text ts → ¬ IsFirstFault text f
  no_fault_with_tokens ts f a b =
      let inside : b.place < length text = fault_inside (length b.tokens) b.place f b.here in
      elim (compare a.pieces b.before.pieces 0 (length text) b.place a.division b.before.division) [
        | inl g ↦ omega (arith, onwards g.rest (length text) b.place g.division, inside)
        | inr g ↦ (let met = stops_at b.tokens ts b.place (length text) f b.before a b.here g in omega (arith, met.0, inside))
      ]
