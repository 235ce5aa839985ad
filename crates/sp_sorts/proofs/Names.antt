-- The names in a text that was read are UTF-8, so that they can be names of files.
use Rattle.std.proofs.Common.{◌≡◌, ◌∙◌, ℕ, zero, suc, ◌+◌, ◌-◌, ◌<◌, List, [], ◌∷◌, Some, Result, Ok, Err, IsTrue, ap, arith, drop, filter_map, get_or, get_or-drop, get_or-take, length, length-take, slice_get, slice_range, sym, subst}
use Rattle.std.specs.List.{All, cons_option}
use Rattle.std.specs.Str.{IsAscii, IsUtf8}
use Rattle.std.proofs.lemmas.Bool.Decides.{nat_tests}
use Rattle.std.proofs.lemmas.List.Elements.{All-cons, All-head, All-nil, All-tail}
use Rattle.std.proofs.lemmas.Str.{IsUtf8-from_ascii}
use Rattle.std.proofs.lemmas.Str.Ascii.{IsAscii-from_reads}
use Rattle.sp_text.specs.declared.fault.Span.{Span}
use Rattle.sp_text.specs.declared.fault.TextFault.{TextFault}
use Rattle.sp_text.specs.declared.token.Token.{Token}
use Rattle.sp_text.specs.declared.token.TokenKind.{TokenKind}
use Rattle.sp_text.specs.declared.token.TokenKind.TheVariants as kind
use Rattle.sp_lexer.specs.Pieces.{Piece, blank, comment, keyword, name, number, symbol, IsPiece, IsRun, word_byte}
use Rattle.sp_lexer.specs.Tokens.{IsDivision, IsTokens, Placed, token_of}
use Rattle.sp_tree.specs.declared.interface.HierarchyTree.{HierarchyTree}
use Rattle.sp_tree.specs.declared.interface.InterfaceTree.{InterfaceTree}
use Rattle.sp_tree.specs.declared.names.Ident.{Ident}
use Rattle.sp_grammar.specs.Codes.{comma}
use Rattle.sp_grammar.specs.Lang.{all_whole}
use Rattle.sp_grammar.specs.Texts.{IsRead, most}
use Rattle.sp_expression.specs.Grammar as expressions
use Rattle.sp_forms.specs.Grammars.{behind, meaning, no_form}
use Rattle.sp_forms.specs.Grammars as form
use Rattle.sp_cursor.specs.Lines.{names_line}
use Rattle.sp_interface.specs.Counts.{mentioned}
use Rattle.sp_interface.specs.Hierarchies.{hierarchy_grammar, hierarchy_line, row_line, rows_line}
use Rattle.sp_interface.specs.Interfaces.{interface_grammar, interface_line, modules_line, sample_line}
use Rattle.sp_sorts.specs.Sorts.{hierarchies, interfaces}
use Rattle.sp_sorts.specs.Texts.{IsTree}
use Rattle.sp_sorts.specs.declared.reading.Reading.{Reading}

-- ---- the tokens of a text

-- a name is UTF-8, where the token is one
abbrev IsTextName : TokenKind → Type 0
IsTextName (kind.Name n) = IsUtf8 n
IsTextName k = Unit {0}

abbrev HaveTextNames : List Token → Type 0
HaveTextNames [] = Unit {0}
HaveTextNames (t ∷ ts) = IsTextName t.kind × HaveTextNames ts

word_small : (b : ℕ) → IsTrue (word_byte b) → b < 128
word_small b h = grind (arith, nat_tests)

range_ascii : (text : List ℕ) (start end : ℕ) → IsRun text word_byte start end → IsAscii (slice_range text start end)
range_ascii text start end run =
    IsAscii-from_reads (slice_range text start end) (end - start) (omega (arith, length-take (end - start) (drop start text)))
    (λ k below.
    let place : start + k < end = omega arith in
    let same : get_or (slice_range text start end) k 0 ≡ get_or text (start + k) 0 = get_or-take (end - start) (drop start text) k 0 below ∙ get_or-drop start text k 0 in
    rw same (word_small _ (run.each (start + k) (omega arith) place)))

piece_names : (text : List ℕ) (q : Piece) (start from to : ℕ) (others : List Token) → IsPiece text q from to → HaveTextNames others
    → HaveTextNames (cons_option (token_of (record { piece = q; start = start; end = to })) others)
piece_names text blank start from to others h rest = rest
piece_names text comment start from to others h rest = rest
piece_names text (keyword k) start from to others h rest = (tt, rest)
piece_names text (name n) start from to others h rest = (subst IsUtf8 h.1 (IsUtf8-from_ascii _ (range_ascii text from to h.0.bytes)), rest)
piece_names text (number n) start from to others h rest = (tt, rest)
piece_names text (symbol s) start from to others h rest = (tt, rest)

division_names : (text : List ℕ) (pieces : List Placed) (from to : ℕ) → IsDivision text pieces from to → HaveTextNames (filter_map token_of pieces)
division_names text [] from to d = tt
division_names text (p ∷ rest) from to d =
    piece_names text p.piece p.start from p.end (filter_map token_of rest) d.1.piece (division_names text rest p.end to d.2)

names_text : (text : List ℕ) (tokens : List Token) → IsTokens text tokens → HaveTextNames tokens
names_text text tokens h = subst HaveTextNames h.tokens_are (division_names text h.pieces 0 (length text) h.division)

token_at : (ts : List Token) (i : ℕ) (x : List ℕ) (s : Span) → HaveTextNames ts → slice_get ts i ≡ Some (record { kind = kind.Name x; span = s }) → IsUtf8 x
token_at [] i x s h e = absurd cc
token_at (t ∷ ts) zero x s h e =
    let same : t ≡ record { kind = kind.Name x; span = s } = cc in
    subst (λ (u : Token). IsTextName u.kind) same h.0
token_at (t ∷ ts) (suc i) x s h e = token_at ts i x s h.1 e

-- ---- the names of an interface

module _ (ts : List Token) (names : HaveTextNames ts) (b : ℕ) where
  ident_text : (x : Ident) (i j : ℕ) → (expressions.ident ts).whole x i j → IsUtf8 x.name
  ident_text x i j h = token_at ts i x.name x.span names h.0

  more_text : (xs : List Ident) (i j : ℕ) → all_whole (meaning {R = ⊥} (behind comma form.name) no_form ts b) xs i j → All (λ (x : Ident). IsUtf8 x.name) xs
  more_text [] i j h = All-nil (λ (y : Ident). IsUtf8 y.name)
  more_text (x ∷ xs) i j (k, one, rest) =
      All-cons (λ (y : Ident). IsUtf8 y.name) x xs (subst (λ (y : Ident). IsUtf8 y.name) (sym one.1) (ident_text one.0.1 one.2.0 k one.2.2)) (more_text xs k j rest)

  list_text : (xs : List Ident) (i j : ℕ) → (meaning names_line no_form ts b).whole xs i j → All (λ (x : Ident). IsUtf8 x.name) xs
  unfolding names_line
  list_text xs i j (p, e, (k, first, more)) =
      subst (λ (ys : List Ident). All (λ (x : Ident). IsUtf8 x.name) ys) (sym e) (All-cons (λ (y : Ident). IsUtf8 y.name) p.0 p.1 (ident_text p.0 i k first) (more_text p.1 k j more))

module _ (ts : List Token) (names : HaveTextNames ts) (t : InterfaceTree) where
  modules_text : IsRead (interface_line ts) ts t → All (λ (x : Ident). IsUtf8 x.name) t.modules
  unfolding interface_grammar modules_line
  modules_text w =
      let m = w.2.2.2.1 in
      subst (λ (u : InterfaceTree). All (λ (x : Ident). IsUtf8 x.name) u.modules) (sym w.1)
      (subst (λ (ys : List Ident). All (λ (x : Ident). IsUtf8 x.name) ys) (sym m.1) (list_text ts names most.height m.0.1.0 m.2.0 m.2.2.0 m.2.2.1))

  sample_text : IsRead (interface_line ts) ts t → IsUtf8 t.sample.name
  unfolding interface_grammar sample_line
  sample_text w =
      let s = w.2.2.2.2.2.2.1 in
      subst (λ (u : InterfaceTree). IsUtf8 u.sample.name) (sym w.1)
      (subst (λ (y : Ident). IsUtf8 y.name) (sym s.1) (ident_text ts names most.height s.0.1.0 s.2.0 s.2.2.0 s.2.2.1))

-- the tree of an answer, where there is one
abbrev tree_or : {T : Type 0} → T → Result (Reading T) TextFault → T
tree_or t (Ok x) = x.tree
tree_or t (Err f) = t

module _ (t : InterfaceTree) where
  pub module_names : IsTree interfaces t → All (λ (x : Ident). IsUtf8 x.name) t.modules
  module_names (text, (Err f, lexed, e)) = absurd cc
  module_names (text, (Ok tokens, lexed, (Err f, read, e))) = absurd cc
  module_names (text, (Ok tokens, lexed, (Ok u, read, e))) =
      let same : u ≡ t = ap (tree_or t) (sym e) in
      subst (λ (v : InterfaceTree). All (λ (x : Ident). IsUtf8 x.name) v.modules) same (modules_text tokens (names_text text tokens lexed) u read.0)

  pub sample_name : IsTree interfaces t → IsUtf8 t.sample.name
  sample_name (text, (Err f, lexed, e)) = absurd cc
  sample_name (text, (Ok tokens, lexed, (Err f, read, e))) = absurd cc
  sample_name (text, (Ok tokens, lexed, (Ok u, read, e))) =
      let same : u ≡ t = ap (tree_or t) (sym e) in
      subst (λ (v : InterfaceTree). IsUtf8 v.sample.name) same (sample_text tokens (names_text text tokens lexed) u read.0)

-- ---- the names of a hierarchy

-- the three names of a row are UTF-8
abbrev pub IsRowText : Ident × Ident × Ident → Type 0
IsRowText row = IsUtf8 row.0.name × IsUtf8 row.1.name × IsUtf8 row.2.name

module _ (ts : List Token) (names : HaveTextNames ts) (b : ℕ) where
  row_text : (row : Ident × Ident × Ident) (i j : ℕ) → (meaning row_line no_form ts b).whole row i j → IsRowText row
  unfolding row_line
  row_text row i j (p, e, (k, upper, (l, over, (m, lower, (n, by, (q, mapping, end)))))) =
      subst IsRowText (sym e) (ident_text ts names b p.0 i k upper, ident_text ts names b p.1.1.0 l m lower, ident_text ts names b p.1.1.1.1.0 n q mapping)

  rows_text : (rows : List (Ident × Ident × Ident)) (i j : ℕ) → all_whole (meaning row_line no_form ts b) rows i j → All IsRowText rows
  rows_text [] i j h = All-nil IsRowText
  rows_text (row ∷ rows) i j (k, one, rest) = All-cons IsRowText row rows (row_text row i k one) (rows_text rows k j rest)

module _ (ts : List Token) (names : HaveTextNames ts) (t : HierarchyTree) where
  hierarchy_text : IsRead (hierarchy_line ts) ts t → All IsRowText t.rows
  unfolding hierarchy_grammar rows_line
  hierarchy_text (p, e, (k, word, (l, own, (m, rows, end)))) =
      subst (λ (u : HierarchyTree). All IsRowText u.rows) (sym e) (rows_text ts names most.height p.1.1.0 l m rows)

module _ (t : HierarchyTree) where
  -- the names of the interfaces and the mapping in each row
  pub row_names : IsTree hierarchies t → All IsRowText t.rows
  row_names (text, (Err f, lexed, e)) = absurd cc
  row_names (text, (Ok tokens, lexed, (Err f, read, e))) = absurd cc
  row_names (text, (Ok tokens, lexed, (Ok u, read, e))) =
      let same : u ≡ t = ap (tree_or t) (sym e) in
      subst (λ (v : HierarchyTree). All IsRowText v.rows) same (hierarchy_text tokens (names_text text tokens lexed) u read.0)

mentioned_text : (rows : List (Ident × Ident × Ident)) → All IsRowText rows → All (λ (x : Ident). IsUtf8 x.name) (mentioned rows)
mentioned_text [] h = All-nil (λ (y : Ident). IsUtf8 y.name)
mentioned_text (row ∷ rows) h =
    let own = All-head IsRowText row rows h in
    All-cons (λ (y : Ident). IsUtf8 y.name) row.0 (row.1 ∷ mentioned rows) own.0
    (All-cons (λ (y : Ident). IsUtf8 y.name) row.1 (mentioned rows) own.1 (mentioned_text rows (All-tail IsRowText row rows h)))

-- the names of the interfaces, in the order in which they are mentioned
pub mentioned_names : (t : HierarchyTree) → IsTree hierarchies t → All (λ (x : Ident). IsUtf8 x.name) (mentioned t.rows)
mentioned_names t h = mentioned_text t.rows (row_names t h)
