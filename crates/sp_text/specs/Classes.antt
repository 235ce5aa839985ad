-- The classes of bytes that tokens are made of, as tests that compute, for the definition of tokens.
use Rattle.std.specs.Prelude.{ℕ, Bool, ◌&&◌, ◌||◌, ◌==◌, nat_le}

-- `A` to `Z` and `a` to `z`
abbrev pub letter_byte : ℕ → Bool
letter_byte b = (nat_le 65 b && nat_le b 90) || (nat_le 97 b && nat_le b 122)

-- `0` to `9`
abbrev pub digit_byte : ℕ → Bool
digit_byte b = nat_le 48 b && nat_le b 57

-- tab, line feed, form feed, carriage return and space
abbrev pub space_byte : ℕ → Bool
space_byte b = (b == 9) || (b == 10) || (b == 12) || (b == 13) || (b == 32)
