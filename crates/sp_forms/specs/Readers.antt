-- How a grammar is read: a function of the cursor with one outcome, a value and the cursor behind it, or the fault. It says
-- only how a reader goes, one token ahead; that what it finds is what the grammar means is proved (`Sound`).
use Rattle.std.specs.Prelude.{ℕ, ℤ, zero, suc, eqb, if◌then◌else◌, List, [], ◌∷◌, ◌++◌, length, Option, Some, None, Ok, Err, slice_get}
use Rattle.std.proofs.Common.{inl, inr}
use Rattle.sp_text.specs.declared.fault.Span.{Span}
use Rattle.sp_text.specs.declared.fault.Limit.{Limit}
use Rattle.sp_text.specs.declared.fault.TextFault.TheVariants as fault
use Rattle.sp_text.specs.declared.token.Token.{Token}
use Rattle.sp_text.specs.declared.token.TokenKind.{TokenKind}
use Rattle.sp_text.specs.declared.token.TokenKind.TheVariants as kind
use Rattle.sp_tree.specs.declared.names.Ident.{Ident}
use Rattle.sp_tree.specs.declared.expr.ExprTree.{ExprTree}
use Rattle.sp_grammar.specs.Lang.{Lang, has, stops, exceeds}
use Rattle.sp_grammar.specs.Texts.{most}
use Rattle.sp_expression.proofs.Decisions.{Decision, decide_expression}
use Rattle.sp_forms.specs.Cursors.{Cursor, lookahead, next, go, left, unexpected, too_high, too_deep, Outcome, Reader, and_then}
use Rattle.sp_forms.specs.Grammars.{Gram, token, name, digits, expr, seq, either, optional, star, made, not_from, again, line, Line, Body, base, nested, Rec, first}

-- Single tokens.

abbrev pub kind_name : TokenKind → Span → Reader Ident
kind_name (kind.Name n) s i = Ok (record { name = n; span = s }, next i)
kind_name _ s i = Err (unexpected i)

abbrev pub kind_digits : TokenKind → Reader ℤ
kind_digits (kind.Number n) i = Ok (n, next i)
kind_digits _ i = Err (unexpected i)

abbrev pub name_or : Option Token → Reader Ident
name_or (Some t) i = kind_name t.kind t.span i
name_or None i = Err (unexpected i)

abbrev pub digits_or : Option Token → Reader ℤ
digits_or (Some t) i = kind_digits t.kind i
digits_or None i = Err (unexpected i)

unfoldable pub read_name : Reader Ident
read_name i = name_or (slice_get i.tokens i.place) i

unfoldable pub read_digits : Reader ℤ
read_digits i = digits_or (slice_get i.tokens i.place) i

unfoldable pub read_token : ℕ → Reader (Unit {0})
read_token c i = if eqb c (lookahead i) then Ok (tt, next i) else Err (unexpected i)

-- nothing is left
unfoldable pub read_end : Reader (Unit {0})
read_end i = if eqb i.place (length i.tokens) then Ok (tt, i) else Err (unexpected i)

-- Expressions.

-- what is found, as an outcome
abbrev pub found_outcome : {F : ℕ → Lang ExprTree} {b p : ℕ} → Cursor → Decision F b p → Outcome ExprTree
found_outcome i (inl (v, h, j, M)) = Ok (v, go i j)
found_outcome i (inr (stops n, S)) = Err (unexpected (go i n))
found_outcome i (inr (exceeds n, E)) = Err (too_high (go i n))

-- The one outcome of an expression there, within this height: `Meets` allows no other.
unfoldable pub read_expr : ℕ → Reader ExprTree
read_expr zero i = Err (unexpected i)
read_expr (suc b) i = found_outcome i (decide_expression i.tokens b i.place)

-- Forms.

-- items as long as one begins, at most so many
unfoldable pub items : {V : Type 0} → List ℕ → Reader V → ℕ → List V → Reader (List V)
items begin item zero found i = Ok (found, i)
items begin item (suc n) found i = if has begin (lookahead i) then and_then (item i) (λ v. items begin item n (found ++ v ∷ [])) else Ok (found, i)

-- where no recursive form stands, none is read
abbrev pub none : {V : Type 0} → Reader V
none i = Err (unexpected i)

-- within this height; e reads `again`, which begins with a
abbrev pub read : {R V : Type 0} → Gram R V → List ℕ → Reader R → ℕ → Reader V
read (token c) a e h i = read_token c i
read name a e h i = read_name i
read digits a e h i = read_digits i
read expr a e h i = read_expr h i
read (seq f g) a e h i = and_then (read f a e h i) (λ x j. and_then (read g a e h j) (λ y k. Ok ((x, y), k)))
read (either f g) a e h i = if has (first a f) (lookahead i) then read f a e h i else read g a e h i
read (optional f) a e h i = if has (first a f) (lookahead i) then and_then (read f a e h i) (λ v j. Ok (Some v, j)) else Ok (None, i)
read (star f) a e h i = items (first a f) (read f a e h) (left i) [] i
read (made k f) a e h i = and_then (read f a e h i) (λ x j. Ok (k j.tokens x i.place j.place, j))
read (not_from xs f) a e h i = if has xs (lookahead i) then Err (unexpected i) else read f a e h i
read again a e h i = e i
read (line f) a e h i = read f [] none h i

-- r with one level less, where there is one
abbrev pub deeper : {V : Type 0} → (ℕ → Reader V) → ℕ → Reader V
deeper r zero i = Err (too_deep i)
deeper r (suc n) i = r n i

-- a body within n levels; e m reads the recursive form within m levels
abbrev pub read_body : {R : Type 0} → Body R → List ℕ → (ℕ → Reader R) → ℕ → ℕ → Reader R
read_body (base g) a e h n i = read g [] none h i
read_body (nested f b) a e h n i = if has (first a f) (lookahead i) then deeper (λ m. read f a (e m) h) n i else read_body b a e h n i

-- a recursive form within n levels
unfoldable pub read_levels : {R : Type 0} → Rec R → ℕ → ℕ → Reader R
read_levels x h zero i = read_body x.body x.begin (λ m. none) h zero i
read_levels x h (suc n) i = read_body x.body x.begin (λ m. read_levels x h n) h (suc n) i

-- What the contracts of reading functions cite: forms within the limit of height.

-- a form in which no recursive form stands
abbrev pub read_line : {V : Type 0} → Line V → Reader V
read_line f = read f [] none most.height

-- a form in which x stands, within n levels
abbrev pub read_in : {R V : Type 0} → Rec R → ℕ → Gram R V → Reader V
read_in x n f = read f x.begin (read_levels x most.height n) most.height

-- a reader, and nothing behind what it reads
abbrev pub whole_of : {V : Type 0} → Reader V → Reader V
whole_of r i = and_then (r i) (λ v j. and_then (read_end j) (λ u k. Ok (v, k)))

-- a text
abbrev pub read_text : {V : Type 0} → Line V → Reader V
read_text f = whole_of (read_line f)

-- a text in which x stands
abbrev pub read_text_in : {R V : Type 0} → Rec R → Gram R V → Reader V
read_text_in x f = whole_of (read_in x most.nesting f)

-- what is read, unless it exceeds a number: then the limit that `over` gives
abbrev pub counted_outcome : {V : Type 0} → Option Limit → V → Reader V
counted_outcome None v i = Ok (v, i)
counted_outcome (Some l) v i = Err (fault.Limit l)

abbrev pub counted : {V : Type 0} → (V → Option Limit) → Reader V → Reader V
counted over r i = and_then (r i) (λ v j. counted_outcome (over v) v j)
