-- Arithmetic and order of integers with the value `?`, for the value of an expression.
use Rattle.std.specs.Prelude.{◌^◌, ℤ, pos, negsuc, ◌+ℤ◌, ◌-ℤ◌, ◌*ℤ◌, Bool, false, nat_lt, int_le, int_lt, Option, Some, None, if◌then◌else◌}
use Rattle.sp_values.specs.declared.value.Value.{Value}
use Rattle.sp_values.specs.declared.value.Value.TheVariants.{Int, Unknown}

-- an integer value: a number or `?`
abbrev pub IsInteger : Value → Type 0
IsInteger (Int n) = Unit {0}
IsInteger Unknown = Unit {0}
IsInteger v = ⊥

-- the numbers from -2^63 to 2^63 - 1
abbrev pub in_range : ℤ → Bool
in_range (pos n) = nat_lt n (2 ^ 63)
in_range (negsuc n) = nat_lt n (2 ^ 63)

-- the number, or `?` where it is out of range
abbrev pub number : ℤ → Value
number z = if in_range z then Int z else Unknown

-- the number, or `?` where there is none
abbrev pub known : Option ℤ → Value
known (Some z) = Int z
known None = Unknown

-- the number that two numbers give; `?` where one of them is `?`
abbrev pub on_numbers : (ℤ → ℤ → ℤ) → Value → Value → Value
on_numbers f (Int a) (Int b) = number (f a b)
on_numbers f a b = Unknown

-- the sum of two integers
abbrev pub sum : Value → Value → Value
sum = on_numbers ◌+ℤ◌

-- the first integer less the second
abbrev pub difference : Value → Value → Value
difference = on_numbers ◌-ℤ◌

-- the product of two integers
abbrev pub product : Value → Value → Value
product = on_numbers ◌*ℤ◌

-- both are numbers, and the first is at most the second
abbrev pub at_most : Value → Value → Bool
at_most (Int a) (Int b) = int_le a b
at_most a b = false

-- both are numbers, and the first is less than the second
abbrev pub less_than : Value → Value → Bool
less_than (Int a) (Int b) = int_lt a b
less_than a b = false
