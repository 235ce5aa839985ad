-- What a numeral is parsed as is its size, where it has one.
use Rattle.std.proofs.Common.{rules, ◌≡◌, ◌∙◌, ◌^◌, ◌<◌, ◌≤◌, ℕ, Bool, List, [], ◌∷◌, None, Some, Option, Result, Ok, Err, ap, cond, length, refl, sym, true, false, arith}
use Rattle.std.specs.Prelude.{nat_le}
use Rattle.std.specs.Char.{is_ascii_digit}
use Rattle.std.specs.List.{list_all}
use Rattle.std.specs.Str.Parse.{ParsesUnsigned, digits_value}
use Rattle.std.proofs.lemmas.Bool.{leb-true}
use Rattle.std.proofs.lemmas.Str.Parse.{IsDigitsTest, IsNumeralModel, numerals_by_value, parse_digits}
use Rattle.clap.proofs.WalkLemmas.{both}
use Rattle.sp_words.specs.Size.{is_numeral, is_size, size_of, sized}

tells_digits : IsDigitsTest (λ ds. list_all is_ascii_digit ds ≡ true)
tells_digits = search rules

own : IsNumeralModel (λ ds. list_all is_ascii_digit ds ≡ true) (digits_value 10)
own = numerals_by_value (λ ds. list_all is_ascii_digit ds ≡ true) tells_digits

digits_of : (word : List ℕ) → is_numeral word ≡ true → list_all is_ascii_digit word ≡ true
digits_of [] is = absurd cc
digits_of (first ∷ rest) is = (both _ (list_all is_ascii_digit (first ∷ rest)) is).1

some_digit : (word : List ℕ) → is_numeral word ≡ true → 0 < length word
some_digit [] is = absurd cc
some_digit (first ∷ rest) is = omega arith

large : (n : ℕ) (b : Bool) → is_size n ≡ b → ¬ (n < 2 ^ 32) → b ≡ false
large n true e over = absurd (over (omega (arith, leb-true n 100 (both (nat_le 1 n) _ e).1)))
large n false e over = refl

pub parsed_none : {E : Type 0} (word : List ℕ) → is_numeral word ≡ true → (fault : E) (r : Result ℕ E) → ParsesUnsigned 32 10 word r → r ≡ Err fault → None ≡ size_of word
parsed_none word is fault (Ok m) parses e = absurd cc
parsed_none word is fault (Err other) parses e =
    let out = parse_digits own 32 word (Err other) parses (digits_of word is) in
    let big = large (digits_value 10 word) (is_size (digits_value 10 word)) refl (λ fits. out (some_digit word is, fits)) in
    sym (ap (λ b. cond b (sized (digits_value 10 word)) None) is ∙ ap (λ b. cond b (Some (digits_value 10 word)) None) big)
