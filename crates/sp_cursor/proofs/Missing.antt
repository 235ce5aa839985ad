-- What a name's and a number's reader find where none stands.
use Rattle.std.proofs.Common.{◌≡◌, ℕ, ℤ, Bool, true, false, eqb, Option, Some, None, Err, List, refl, sym, slice_get}
use Rattle.std.proofs.lemmas.Bool.{eqb-true}
use Rattle.sp_text.specs.declared.fault.Span.{Span}
use Rattle.sp_text.specs.declared.token.Token.{Token}
use Rattle.sp_text.specs.declared.token.TokenKind.{TokenKind}
use Rattle.sp_text.specs.declared.token.TokenKind.TheVariants as kind
use Rattle.sp_grammar.specs.Codes.{code_at, code_or_end, kind_code, name_code, number_code}
use Rattle.sp_forms.specs.Cursors.{Cursor, unexpected}
use Rattle.sp_forms.specs.Readers.{read_name, read_digits, kind_name, kind_digits, name_or, digits_or}

no_name_kind : (k : TokenKind) (s : Span) (i : Cursor) → (kind_code k ≡ name_code → ⊥) → kind_name k s i ≡ Err (unexpected i)
no_name_kind (kind.Name n) s i ne = absurd (ne refl)
no_name_kind (kind.Word w) s i ne = refl
no_name_kind (kind.Symbol w) s i ne = refl
no_name_kind (kind.Number w) s i ne = refl

no_name_or : (o : Option Token) (i : Cursor) → (code_or_end o ≡ name_code → ⊥) → name_or o i ≡ Err (unexpected i)
no_name_or None i ne = refl
no_name_or (Some t) i ne = no_name_kind t.kind t.span i ne

pub reads_no_name : (i : Cursor) → (code_at i.tokens i.place ≡ name_code → ⊥) → read_name i ≡ Err (unexpected i)
unfolding read_name code_at
reads_no_name i ne = no_name_or (slice_get i.tokens i.place) i ne

no_digits_kind : (k : TokenKind) (i : Cursor) → (kind_code k ≡ number_code → ⊥) → kind_digits k i ≡ Err (unexpected i)
no_digits_kind (kind.Name n) i ne = refl
no_digits_kind (kind.Word w) i ne = refl
no_digits_kind (kind.Symbol w) i ne = refl
no_digits_kind (kind.Number w) i ne = absurd (ne refl)

no_digits_or : (o : Option Token) (i : Cursor) → (code_or_end o ≡ number_code → ⊥) → digits_or o i ≡ Err (unexpected i)
no_digits_or None i ne = refl
no_digits_or (Some t) i ne = no_digits_kind t.kind i ne

pub reads_no_digits : (i : Cursor) → (code_at i.tokens i.place ≡ number_code → ⊥) → read_digits i ≡ Err (unexpected i)
unfolding read_digits code_at
reads_no_digits i ne = no_digits_or (slice_get i.tokens i.place) i ne

pub other_code : (c n : ℕ) → (n ≡ c → ⊥) → false ≡ eqb c n
other_code c n ne = elim (eqb c n) as (λ (b : Bool). eqb c n ≡ b → false ≡ b) [ true ↦ λ e. absurd (ne (sym (eqb-true c n e))) | false ↦ λ e. refl ] refl

pub code_of_name : (ts : List Token) (i : ℕ) (n : List ℕ) (s : Span) → slice_get ts i ≡ Some (record { kind = kind.Name n; span = s }) → true ≡ eqb name_code (code_at ts i)
unfolding code_at
code_of_name ts i n s e = rw e refl

pub code_of_number : (ts : List Token) (i : ℕ) (n : ℤ) (s : Span) → slice_get ts i ≡ Some (record { kind = kind.Number n; span = s }) → true ≡ eqb number_code (code_at ts i)
unfolding code_at
code_of_number ts i n s e = rw e refl
