-- The module of a sample has no assertions: its text doesn't hold the word ASSERTIONS, without which a module has none.
use Rattle.std.proofs.Common.{◌≡◌, ◌∙◌, ◌≤◌, ◌<◌, ◌-◌, ℕ, zero, suc, List, [], ◌∷◌, Option, None, Some, Result, Ok, Err, Bool, true, false, ap, arith, codes, drop, inl, inr, length, lit<, refl, slice_get, subst, sym, take}
use Rattle.std.specs.Prelude.{◌⊎◌, All, filter_map, option_map, slice_range}
use Rattle.std.specs.List.{cons_option}
use Rattle.std.proofs.lemmas.List.Elements.{All-cons, All-head, All-nil, All-tail}
use Rattle.sp_text.specs.declared.fault.Span.{Span}
use Rattle.sp_text.specs.declared.fault.TextFault.{TextFault}
use Rattle.sp_text.specs.declared.token.Token.{Token}
use Rattle.sp_text.specs.declared.token.TokenKind.{TokenKind}
use Rattle.sp_text.specs.declared.token.TokenKind.TheVariants as kind
use Rattle.sp_text.specs.declared.token.Keyword.{Keyword}
use Rattle.sp_text.specs.declared.token.Keyword.TheVariants as word
use Rattle.sp_text.specs.declared.token.Symbol.{Symbol}
use Rattle.sp_text.specs.declared.token.Symbol.TheVariants as mark
use Rattle.sp_tree.specs.declared.expr.ExprTree.{ExprTree}
use Rattle.sp_tree.specs.declared.module.Module.{Module}
use Rattle.sp_grammar.specs.Codes.{code_at, code_or_end, kind_code, symbol_code, word_assertions, word_code}
use Rattle.sp_grammar.specs.Texts.{IsRead}
use Rattle.sp_lexer.specs.Pieces.{IsLongest, Piece, blank, comment, keyword, name, number, symbol}
use Rattle.sp_lexer.specs.Spelling.{keyword_text}
use Rattle.sp_lexer.specs.Tokens.{HasTokens, IsDivision, IsTokens, Placed, kind_of, token_of}
use Rattle.sp_parser.specs.Modules.{assertions_line, module_grammar, module_line}
use Rattle.sp_sample.specs.Module.{sample_module}
use Rattle.sp_sample.proofs.Unasserted.{apart, apart_module, apart_range}

-- ---- the word

word_only : (w : Keyword) → word_code w ≡ 7 → w ≡ word.Assertions
word_only word.Module e = absurd (omega (arith, e))
word_only word.EndModule e = absurd (omega (arith, e))
word_only word.Types e = absurd (omega (arith, e))
word_only word.Parameters e = absurd (omega (arith, e))
word_only word.Definitions e = absurd (omega (arith, e))
word_only word.ExternalRefs e = absurd (omega (arith, e))
word_only word.Assertions e = refl
word_only word.Functions e = absurd (omega (arith, e))
word_only word.Designator e = absurd (omega (arith, e))
word_only word.Boolean e = absurd (omega (arith, e))
word_only word.Integer e = absurd (omega (arith, e))
word_only word.Level e = absurd (omega (arith, e))
word_only word.From e = absurd (omega (arith, e))
word_only word.Is e = absurd (omega (arith, e))
word_only word.Vfun e = absurd (omega (arith, e))
word_only word.Ofun e = absurd (omega (arith, e))
word_only word.Ovfun e = absurd (omega (arith, e))
word_only word.Hidden e = absurd (omega (arith, e))
word_only word.Exceptions e = absurd (omega (arith, e))
word_only word.Initially e = absurd (omega (arith, e))
word_only word.Derivation e = absurd (omega (arith, e))
word_only word.Effects e = absurd (omega (arith, e))
word_only word.If e = absurd (omega (arith, e))
word_only word.Then e = absurd (omega (arith, e))
word_only word.Else e = absurd (omega (arith, e))
word_only word.EndIf e = absurd (omega (arith, e))
word_only word.Forall e = absurd (omega (arith, e))
word_only word.EndForall e = absurd (omega (arith, e))
word_only word.Exists e = absurd (omega (arith, e))
word_only word.EndExists e = absurd (omega (arith, e))
word_only word.Not e = absurd (omega (arith, e))
word_only word.And e = absurd (omega (arith, e))
word_only word.Or e = absurd (omega (arith, e))
word_only word.Implies e = absurd (omega (arith, e))
word_only word.Iff e = absurd (omega (arith, e))
word_only word.Lub e = absurd (omega (arith, e))
word_only word.Glb e = absurd (omega (arith, e))
word_only word.True e = absurd (omega (arith, e))
word_only word.False e = absurd (omega (arith, e))
word_only word.Bottom e = absurd (omega (arith, e))
word_only word.Top e = absurd (omega (arith, e))
word_only word.Interface e = absurd (omega (arith, e))
word_only word.EndInterface e = absurd (omega (arith, e))
word_only word.Modules e = absurd (omega (arith, e))
word_only word.Lattice e = absurd (omega (arith, e))
word_only word.Order e = absurd (omega (arith, e))
word_only word.Chain e = absurd (omega (arith, e))
word_only word.Categories e = absurd (omega (arith, e))
word_only word.Sample e = absurd (omega (arith, e))
word_only word.Instance e = absurd (omega (arith, e))
word_only word.EndInstance e = absurd (omega (arith, e))
word_only word.Population e = absurd (omega (arith, e))
word_only word.Parameter e = absurd (omega (arith, e))
word_only word.Otherwise e = absurd (omega (arith, e))
word_only word.Hierarchy e = absurd (omega (arith, e))
word_only word.EndHierarchy e = absurd (omega (arith, e))
word_only word.Over e = absurd (omega (arith, e))
word_only word.By e = absurd (omega (arith, e))
word_only word.Mapping e = absurd (omega (arith, e))
word_only word.EndMapping e = absurd (omega (arith, e))
word_only word.To e = absurd (omega (arith, e))

no_symbol : (s : Symbol) → symbol_code s ≡ 7 → ⊥
no_symbol mark.LeftParenthesis e = omega (arith, e)
no_symbol mark.RightParenthesis e = omega (arith, e)
no_symbol mark.LeftBrace e = omega (arith, e)
no_symbol mark.RightBrace e = omega (arith, e)
no_symbol mark.Comma e = omega (arith, e)
no_symbol mark.Semicolon e = omega (arith, e)
no_symbol mark.Colon e = omega (arith, e)
no_symbol mark.Equal e = omega (arith, e)
no_symbol mark.NotEqual e = omega (arith, e)
no_symbol mark.Less e = omega (arith, e)
no_symbol mark.LessOrEqual e = omega (arith, e)
no_symbol mark.Greater e = omega (arith, e)
no_symbol mark.GreaterOrEqual e = omega (arith, e)
no_symbol mark.Plus e = omega (arith, e)
no_symbol mark.Minus e = omega (arith, e)
no_symbol mark.Star e = omega (arith, e)
no_symbol mark.Arrow e = omega (arith, e)
no_symbol mark.Quote e = omega (arith, e)
no_symbol mark.Question e = omega (arith, e)

kind_only : (k : TokenKind) → kind_code k ≡ 7 → k ≡ kind.Word word.Assertions
kind_only (kind.Word w) e = ap kind.Word (word_only w e)
kind_only (kind.Symbol s) e = absurd (no_symbol s e)
kind_only (kind.Name n) e = absurd (omega (arith, e))
kind_only (kind.Number n) e = absurd (omega (arith, e))

piece_only : (p : Piece) → kind_of p ≡ Some (kind.Word word.Assertions) → p ≡ keyword word.Assertions
piece_only blank e = absurd cc
piece_only comment e = absurd cc
piece_only (keyword w) e = let same : w ≡ word.Assertions = cc in ap keyword same
piece_only (name n) e = absurd cc
piece_only (number n) e = absurd cc
piece_only (symbol s) e = absurd cc

-- ---- the tokens

-- the token isn't that word
abbrev IsOther : Token → Type 0
IsOther t = kind_code t.kind ≡ 7 → ⊥

module _ (text : List ℕ) (far : apart false text ≡ true) where
  never : (start end : ℕ) → slice_range text start end ≡ keyword_text word.Assertions → ⊥
  never start end is =
      let no : false ≡ true = sym (ap (apart false) is) ∙ apart_range text start end far in
      absurd cc

  never_piece : (p : Piece) (start end : ℕ) → p ≡ keyword word.Assertions → IsLongest text p start end → ⊥
  never_piece p start end is longest =
      let piece = (subst (λ q. IsLongest text q start end) is longest).piece in
      never start end piece.1

  other : (p : Placed) (k : Option TokenKind) → kind_of p.piece ≡ k → IsLongest text p.piece p.start p.end → (ts : List Token) → All IsOther ts
      → All IsOther (cons_option (option_map (λ k. record { kind = k; span = record { start = p.start; end = p.end } }) k) ts)
  other p None is longest ts rest = rest
  other p (Some k) is longest ts rest =
      All-cons IsOther (record { kind = k; span = record { start = p.start; end = p.end } }) ts
      (λ e. never_piece p.piece p.start p.end (piece_only p.piece (is ∙ ap Some (kind_only k e))) longest) rest

  all_other : (ps : List Placed) (here end : ℕ) → IsDivision text ps here end → All IsOther (filter_map token_of ps)
  all_other [] here end d = All-nil IsOther
  all_other (p ∷ ps) here end d =
      let longest = subst (λ s. IsLongest text p.piece s p.end) (sym d.0) d.1 in
      other p (kind_of p.piece) refl longest (filter_map token_of ps) (all_other ps p.end end d.2)

  tokens_other : (ts : List Token) → IsTokens text ts → All IsOther ts
  tokens_other ts is = subst (All IsOther) is.tokens_are (all_other is.pieces 0 (length text) is.division)

none_at : (ts : List Token) (i : ℕ) → All IsOther ts → code_or_end (slice_get ts i) ≡ 7 → ⊥
none_at [] i all e = absurd (omega (arith, e))
none_at (t ∷ ts) zero all e = All-head IsOther t ts all e
none_at (t ∷ ts) (suc i) all e = none_at ts i (All-tail IsOther t ts all) e

-- ---- the module

asserted : (ts : List Token) (m : Module) → IsRead (module_line ts) ts m → (m.assertions ≡ []) ⊎ ((i : ℕ) × (code_at ts i ≡ 7))
unfolding module_grammar assertions_line
asserted ts m (a, is, (k0, first, (k1, second, (k2, types, (k3, parameters, (k4, definitions, (k5, externals, (k6, (None, none, same), rest)))))))) =
    inl (ap (λ (x : Module). x.assertions) is ∙ none)
asserted ts m (a, is, (k0, first, (k1, second, (k2, types, (k3, parameters, (k4, definitions, (k5, externals, (k6, (Some es, some, (p, made, (k, at, more))), rest)))))))) =
    inr (k5, at.0)

-- the module that the text of a sample reads as
pub unasserted : (n : ℕ) → n ≤ 1000 → (ts : List Token) (m : Module) → IsTokens (sample_module n) ts → IsRead (module_line ts) ts m → m.assertions ≡ []
unfolding code_at
unasserted n few ts m tokens read =
    elim (asserted ts m read) [ inl none ↦ none | inr some ↦ absurd (none_at ts some.0 (tokens_other (sample_module n) (apart_module n few) ts tokens) some.1) ]
