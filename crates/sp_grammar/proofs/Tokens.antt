-- What the code of a place says of the token there.
use Rattle.std.proofs.Common.{◌≡◌, ℕ, ℤ, ◌<◌, inl, inr, List, Option, Some, None, slice_get, length, lit<, refl, arith}
use Rattle.std.proofs.lemmas.Option.{slice_get_cases}
use Rattle.sp_text.specs.declared.fault.Span.{Span}
use Rattle.sp_text.specs.declared.token.Token.{Token}
use Rattle.sp_text.specs.declared.token.TokenKind.{TokenKind}
use Rattle.sp_text.specs.declared.token.TokenKind.TheVariants as kind
use Rattle.sp_text.specs.declared.token.Keyword.{Keyword}
use Rattle.sp_text.specs.declared.token.Keyword.TheVariants as word
use Rattle.sp_text.specs.declared.token.Symbol.{Symbol}
use Rattle.sp_text.specs.declared.token.Symbol.TheVariants as mark
use Rattle.sp_grammar.specs.Codes.{code_at, code_or_end, kind_code, name_code, number_code, word_code, symbol_code}

pub word_range : (w : Keyword) → (0 < word_code w) × (word_code w < name_code)
word_range word.Module = (lit< tt, lit< tt)
word_range word.EndModule = (lit< tt, lit< tt)
word_range word.Types = (lit< tt, lit< tt)
word_range word.Parameters = (lit< tt, lit< tt)
word_range word.Definitions = (lit< tt, lit< tt)
word_range word.ExternalRefs = (lit< tt, lit< tt)
word_range word.Assertions = (lit< tt, lit< tt)
word_range word.Functions = (lit< tt, lit< tt)
word_range word.Designator = (lit< tt, lit< tt)
word_range word.Boolean = (lit< tt, lit< tt)
word_range word.Integer = (lit< tt, lit< tt)
word_range word.Level = (lit< tt, lit< tt)
word_range word.From = (lit< tt, lit< tt)
word_range word.Is = (lit< tt, lit< tt)
word_range word.Vfun = (lit< tt, lit< tt)
word_range word.Ofun = (lit< tt, lit< tt)
word_range word.Ovfun = (lit< tt, lit< tt)
word_range word.Hidden = (lit< tt, lit< tt)
word_range word.Exceptions = (lit< tt, lit< tt)
word_range word.Initially = (lit< tt, lit< tt)
word_range word.Derivation = (lit< tt, lit< tt)
word_range word.Effects = (lit< tt, lit< tt)
word_range word.If = (lit< tt, lit< tt)
word_range word.Then = (lit< tt, lit< tt)
word_range word.Else = (lit< tt, lit< tt)
word_range word.EndIf = (lit< tt, lit< tt)
word_range word.Forall = (lit< tt, lit< tt)
word_range word.EndForall = (lit< tt, lit< tt)
word_range word.Exists = (lit< tt, lit< tt)
word_range word.EndExists = (lit< tt, lit< tt)
word_range word.Not = (lit< tt, lit< tt)
word_range word.And = (lit< tt, lit< tt)
word_range word.Or = (lit< tt, lit< tt)
word_range word.Implies = (lit< tt, lit< tt)
word_range word.Iff = (lit< tt, lit< tt)
word_range word.Lub = (lit< tt, lit< tt)
word_range word.Glb = (lit< tt, lit< tt)
word_range word.True = (lit< tt, lit< tt)
word_range word.False = (lit< tt, lit< tt)
word_range word.Bottom = (lit< tt, lit< tt)
word_range word.Top = (lit< tt, lit< tt)
word_range word.Interface = (lit< tt, lit< tt)
word_range word.EndInterface = (lit< tt, lit< tt)
word_range word.Modules = (lit< tt, lit< tt)
word_range word.Lattice = (lit< tt, lit< tt)
word_range word.Order = (lit< tt, lit< tt)
word_range word.Chain = (lit< tt, lit< tt)
word_range word.Categories = (lit< tt, lit< tt)
word_range word.Sample = (lit< tt, lit< tt)
word_range word.Instance = (lit< tt, lit< tt)
word_range word.EndInstance = (lit< tt, lit< tt)
word_range word.Population = (lit< tt, lit< tt)
word_range word.Parameter = (lit< tt, lit< tt)
word_range word.Otherwise = (lit< tt, lit< tt)
word_range word.Hierarchy = (lit< tt, lit< tt)
word_range word.EndHierarchy = (lit< tt, lit< tt)
word_range word.Over = (lit< tt, lit< tt)
word_range word.By = (lit< tt, lit< tt)
word_range word.Mapping = (lit< tt, lit< tt)
word_range word.EndMapping = (lit< tt, lit< tt)
word_range word.To = (lit< tt, lit< tt)

pub symbol_range : (s : Symbol) → (0 < symbol_code s) × (symbol_code s < name_code)
symbol_range mark.LeftParenthesis = (lit< tt, lit< tt)
symbol_range mark.RightParenthesis = (lit< tt, lit< tt)
symbol_range mark.LeftBrace = (lit< tt, lit< tt)
symbol_range mark.RightBrace = (lit< tt, lit< tt)
symbol_range mark.Comma = (lit< tt, lit< tt)
symbol_range mark.Semicolon = (lit< tt, lit< tt)
symbol_range mark.Colon = (lit< tt, lit< tt)
symbol_range mark.Equal = (lit< tt, lit< tt)
symbol_range mark.NotEqual = (lit< tt, lit< tt)
symbol_range mark.Less = (lit< tt, lit< tt)
symbol_range mark.LessOrEqual = (lit< tt, lit< tt)
symbol_range mark.Greater = (lit< tt, lit< tt)
symbol_range mark.GreaterOrEqual = (lit< tt, lit< tt)
symbol_range mark.Plus = (lit< tt, lit< tt)
symbol_range mark.Minus = (lit< tt, lit< tt)
symbol_range mark.Star = (lit< tt, lit< tt)
symbol_range mark.Arrow = (lit< tt, lit< tt)
symbol_range mark.Quote = (lit< tt, lit< tt)
symbol_range mark.Question = (lit< tt, lit< tt)

-- a token stands before the end
pub code_within : (ts : List Token) (i n : ℕ) → code_at ts i ≡ n → 0 < n → i < length ts
unfolding code_at
code_within ts i n e h = elim (slice_get_cases ts i).1 [
  | inl (x, lt, f, g) ↦ lt
  | inr (le, f) ↦ absurd (let z : 0 ≡ n = rw f at e in omega arith)
]

name_kind : (k : TokenKind) → ((n : List ℕ) → k ≡ kind.Name n → ⊥) → kind_code k ≡ name_code → ⊥
name_kind (kind.Word w) f e = let h = (word_range w).1 in omega arith
name_kind (kind.Symbol s) f e = let h = (symbol_range s).1 in omega arith
name_kind (kind.Name n) f e = f n refl
name_kind (kind.Number n) f e = omega arith

number_kind : (k : TokenKind) → ((n : ℤ) → k ≡ kind.Number n → ⊥) → kind_code k ≡ number_code → ⊥
number_kind (kind.Word w) f e = let h = (word_range w).1 in omega arith
number_kind (kind.Symbol s) f e = let h = (symbol_range s).1 in omega arith
number_kind (kind.Name n) f e = omega arith
number_kind (kind.Number n) f e = f n refl

pub no_name : (ts : List Token) (i : ℕ) (t : Token) → slice_get ts i ≡ Some t → ((n : List ℕ) → t.kind ≡ kind.Name n → ⊥) → code_at ts i ≡ name_code → ⊥
unfolding code_at
no_name ts i t e f h = name_kind t.kind f (rw e at h)

pub no_number : (ts : List Token) (i : ℕ) (t : Token) → slice_get ts i ≡ Some t → ((n : ℤ) → t.kind ≡ kind.Number n → ⊥) → code_at ts i ≡ number_code → ⊥
unfolding code_at
no_number ts i t e f h = number_kind t.kind f (rw e at h)

pub no_token : (ts : List Token) (i : ℕ) → slice_get ts i ≡ None → (n : ℕ) → 0 < n → code_at ts i ≡ n → ⊥
unfolding code_at
no_token ts i e n lt h = let z : ◌≡◌ {A = ℕ} 0 n = rw e at h in omega arith

named : (o : Option Token) → code_or_end o ≡ name_code → (n : List ℕ) × (s : Span) × (o ≡ Some (record { kind = kind.Name n; span = s }))
named None e = absurd (let z : ◌≡◌ {A = ℕ} 0 name_code = e in cc)
named (Some t) e = of_kind t.kind t.span e
  where
    of_kind : (k : TokenKind) (s : Span) → kind_code k ≡ name_code → (n : List ℕ) × (r : Span) × (◌≡◌ {A = Option Token} (Some (record { kind = k; span = s })) (Some (record { kind = kind.Name n; span = r })))
    of_kind (kind.Word w) s e = absurd (let h = (word_range w).1 in omega arith)
    of_kind (kind.Symbol x) s e = absurd (let h = (symbol_range x).1 in omega arith)
    of_kind (kind.Name n) s e = (n, s, refl)
    of_kind (kind.Number n) s e = absurd (omega arith)

numbered : (o : Option Token) → code_or_end o ≡ number_code → (n : ℤ) × (s : Span) × (o ≡ Some (record { kind = kind.Number n; span = s }))
numbered None e = absurd (let z : ◌≡◌ {A = ℕ} 0 number_code = e in cc)
numbered (Some t) e = of_kind t.kind t.span e
  where
    of_kind : (k : TokenKind) (s : Span) → kind_code k ≡ number_code → (n : ℤ) × (r : Span) × (◌≡◌ {A = Option Token} (Some (record { kind = k; span = s })) (Some (record { kind = kind.Number n; span = r })))
    of_kind (kind.Word w) s e = absurd (let h = (word_range w).1 in omega arith)
    of_kind (kind.Symbol x) s e = absurd (let h = (symbol_range x).1 in omega arith)
    of_kind (kind.Name n) s e = absurd (omega arith)
    of_kind (kind.Number n) s e = (n, s, refl)

-- where the code is a name's, a name stands
pub name_there : (ts : List Token) (i : ℕ) → code_at ts i ≡ name_code → (n : List ℕ) × (s : Span) × (slice_get ts i ≡ Some (record { kind = kind.Name n; span = s }))
unfolding code_at
name_there ts i e = named (slice_get ts i) e

-- where the code is a number's, a number stands
pub number_there : (ts : List Token) (i : ℕ) → code_at ts i ≡ number_code → (n : ℤ) × (s : Span) × (slice_get ts i ≡ Some (record { kind = kind.Number n; span = s }))
unfolding code_at
number_there ts i e = numbered (slice_get ts i) e
