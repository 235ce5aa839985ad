-- The values of each type and the proper ones among them in order, for states, invocations and quantifiers.
use Rattle.std.specs.Prelude.{ℕ, Bool, true, false, ◌&&◌, ◌||◌, ◌==◌, nat_lt, List, [], ◌∷◌, map}
use Rattle.std.specs.List.{range_with_len}
use Rattle.sp_values.specs.Arithmetic.{in_range}
use Rattle.sp_values.specs.declared.value.Ty.{Ty}
use Rattle.sp_values.specs.declared.value.Ty.TheVariants as ty
use Rattle.sp_values.specs.declared.value.Value.{Value}
use Rattle.sp_values.specs.declared.value.Value.TheVariants as value

-- how many levels the lattice has, and how many members each declared type, by its number
pub record Sizes : Type 0 where
  pub levels : ℕ
  pub members : ℕ → ℕ

-- whether `?` is a value of the type
abbrev pub has_unknown : Ty → Bool
has_unknown ty.Boolean = false
has_unknown ty.Integer = true
has_unknown ty.Level = false
has_unknown (ty.Member k) = true

-- whether it is a proper value of the type
abbrev pub is_proper : Sizes → Ty → Value → Bool
is_proper sizes ty.Boolean (value.Truth b) = true
is_proper sizes ty.Integer (value.Int n) = in_range n
is_proper sizes ty.Level (value.Level l) = nat_lt l sizes.levels
is_proper sizes (ty.Member k) (value.Member j m) = (j == k) && nat_lt m (sizes.members k)
is_proper sizes t v = false

-- whether it is `?`
abbrev pub is_unknown : Value → Bool
is_unknown value.Unknown = true
is_unknown v = false

-- whether it is a value of the type: a proper one, or `?` where the type has it
abbrev pub is_value : Sizes → Ty → Value → Bool
is_value sizes t v = is_proper sizes t v || (has_unknown t && is_unknown v)

-- whether these are values of these types, one for each
abbrev pub are_values : Sizes → List Ty → List Value → Bool
are_values sizes [] [] = true
are_values sizes (t ∷ ts) (v ∷ vs) = is_value sizes t v && are_values sizes ts vs
are_values sizes ts vs = false

-- whether these are proper values of these types, one for each
abbrev pub are_proper : Sizes → List Ty → List Value → Bool
are_proper sizes [] [] = true
are_proper sizes (t ∷ ts) (v ∷ vs) = is_proper sizes t v && are_proper sizes ts vs
are_proper sizes ts vs = false

-- the proper values of a type that a quantifier may range over, in order: FALSE before TRUE, levels and members by number
abbrev pub proper_values : Sizes → Ty → List Value
proper_values sizes ty.Boolean = value.Truth false ∷ value.Truth true ∷ []
proper_values sizes ty.Integer = []
proper_values sizes ty.Level = map value.Level (range_with_len 0 sizes.levels)
proper_values sizes (ty.Member k) = map (value.Member k) (range_with_len 0 (sizes.members k))
