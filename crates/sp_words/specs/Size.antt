-- The size of a sample, as a word of the command line.
use Rattle.std.specs.Prelude.{ℕ, Bool, false, not, ◌&&◌, ◌==◌, nat_le, List, [], ◌∷◌, Option, Some, None, if◌then◌else◌}
use Rattle.std.specs.Char.{is_ascii_digit}
use Rattle.std.specs.List.{list_all}
use Rattle.std.specs.Str.Parse.{digits_value}

-- the word is a number in decimal digits, without leading zeros
abbrev pub is_numeral : List ℕ → Bool
is_numeral [] = false
is_numeral (first ∷ rest) = not (first == 48) && list_all is_ascii_digit (first ∷ rest)

-- the number is a size: 1 to 100
abbrev pub is_size : ℕ → Bool
is_size n = nat_le 1 n && nat_le n 100

-- the number, where it is a size
abbrev pub sized : ℕ → Option ℕ
sized n = if is_size n then Some n else None

-- the size that a word is, if any
abbrev pub size_of : List ℕ → Option ℕ
size_of word = if is_numeral word then sized (digits_value 10 word) else None
