-- Each byte has one class, and each kind of piece begins with bytes of one class.
use Rattle.std.proofs.Common.{◌≡◌, ℕ, true, false, cond, slice_index, ◌==◌, refl, arith}
use Rattle.std.proofs.lemmas.Bool.Decides.{nat_tests}
use Rattle.sp_text.specs.Classes.{letter_byte, digit_byte, space_byte}
use Rattle.sp_text.specs.declared.token.Symbol.{Symbol}
use Rattle.sp_text.specs.declared.token.Symbol.TheVariants as mark
use Rattle.sp_lexer.specs.Spelling.{symbol_text}

pub data Class : Type 0 where
  spaces : Class
  letters : Class
  digits : Class
  dollar : Class
  others : Class

unfoldable pub class_of : ℕ → Class
class_of b = cond (space_byte b) spaces (cond (letter_byte b) letters (cond (digit_byte b) digits (cond (b == 36) dollar others)))

letter_no_space : (b : ℕ) → letter_byte b ≡ true → space_byte b ≡ false
letter_no_space b e = grind (arith, nat_tests)

digit_no_space : (b : ℕ) → digit_byte b ≡ true → space_byte b ≡ false
digit_no_space b e = grind (arith, nat_tests)

digit_no_letter : (b : ℕ) → digit_byte b ≡ true → letter_byte b ≡ false
digit_no_letter b e = grind (arith, nat_tests)

pub class_of-space : (b : ℕ) → space_byte b ≡ true → class_of b ≡ spaces
unfolding class_of
class_of-space b e = rw e refl

pub class_of-letter : (b : ℕ) → letter_byte b ≡ true → class_of b ≡ letters
unfolding class_of
class_of-letter b e = rw (letter_no_space b e, e) refl

pub class_of-digit : (b : ℕ) → digit_byte b ≡ true → class_of b ≡ digits
unfolding class_of
class_of-digit b e = rw (digit_no_space b e, digit_no_letter b e, e) refl

pub class_of-dollar : (b : ℕ) → b ≡ 36 → class_of b ≡ dollar
unfolding class_of
class_of-dollar b e = rw e refl

pub class_of-symbol : (s : Symbol) → class_of (slice_index (symbol_text s) 0) ≡ others
unfolding class_of
class_of-symbol s = elim s as (λ s. class_of (slice_index (symbol_text s) 0) ≡ others) [ mark.LeftParenthesis ↦ refl | _ ↦ refl ]
