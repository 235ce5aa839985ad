-- What the text of a value stands for where a value of a type is asked, or the rule that it breaks; and arguments in their order.
-- The one definition of it, for instances, scripts and all other texts that hold values.
use Rattle.std.specs.Prelude.{◌≡◌, ℕ, Bool, true, false, ◌==◌, if◌then◌else◌, List, [], ◌∷◌, ◌++◌, length, Option, Some, None, Result, Ok, Err, slice_get, slice_index_or, nat_lt, IsTrue}
use Rattle.sp_text.specs.declared.fault.Rule.{Rule}
use Rattle.sp_text.specs.declared.fault.Rule.TheVariants as rule
use Rattle.sp_text.specs.declared.fault.Span.{Span}
use Rattle.sp_text.specs.declared.violation.Violation.{Violation}
use Rattle.sp_text.specs.Violations.{breaks}
use Rattle.sp_values.specs.Arithmetic.{number}
use Rattle.sp_values.specs.Domains.{Sizes}
use Rattle.sp_values.specs.declared.value.Ty.{Ty}
use Rattle.sp_values.specs.declared.value.Ty.TheVariants as ty
use Rattle.sp_values.specs.declared.value.Value.{Value}
use Rattle.sp_values.specs.declared.value.Value.TheVariants as value
use Rattle.sp_tree.specs.declared.instance.ValueNode.{ValueNode}
use Rattle.sp_tree.specs.declared.instance.ValueNode.TheVariants as node
use Rattle.sp_tree.specs.declared.instance.ValueTree.{ValueTree}
use Rattle.sp_instance.specs.Words.{Words, place_of}

-- TRUE and FALSE, where BOOLEAN is asked
abbrev pub truth_meant : ValueNode → Result Value Rule
truth_meant (node.Truth b) = Ok (value.Truth b)
truth_meant n = Err rule.WrongType

-- numbers and `?`, where INTEGER is asked
abbrev pub integer_meant : ValueNode → Result Value Rule
integer_meant (node.Int z) = Ok (number z)
integer_meant node.Unknown = Ok value.Unknown
integer_meant n = Err rule.WrongType

-- the level with a name
abbrev pub level_named : Option ℕ → Result Value Rule
level_named (Some l) = Ok (value.Level l)
level_named None = Err rule.UnknownName

-- BOTTOM, TOP and names of levels, where LEVEL is asked
abbrev pub level_meant : Words → ValueNode → Result Value Rule
level_meant w node.Bottom = Ok (value.Level w.least)
level_meant w node.Top = Ok (value.Level w.greatest)
level_meant w (node.Name x) = level_named (place_of w.levels x)
level_meant w n = Err rule.WrongType

-- the place of a member among those of its type
abbrev pub place_in : Option (List (List ℕ)) → List ℕ → Option ℕ
place_in None x = None
place_in (Some names) x = place_of names x

-- the member of type k with a name; where there is none, the name is of another type than an enumeration, or not in the population
-- of a designator type
abbrev pub member_named : ℕ → Bool → Option ℕ → Result Value Rule
member_named k enumerated (Some m) = Ok (value.Member k m)
member_named k enumerated None = Err (if enumerated then rule.WrongType else rule.NotInPopulation)

-- `?` and names of members, where declared type k is asked
abbrev pub member_meant : Words → ℕ → ValueNode → Result Value Rule
member_meant w k node.Unknown = Ok value.Unknown
member_meant w k (node.Name x) = member_named k (slice_index_or w.enumerated k false) (place_in (slice_get w.members k) x)
member_meant w k n = Err rule.WrongType

-- what it stands for where a value of the type is asked
abbrev pub meant : Words → Ty → ValueNode → Result Value Rule
meant w ty.Boolean n = truth_meant n
meant w ty.Integer n = integer_meant n
meant w ty.Level n = level_meant w n
meant w (ty.Member k) n = member_meant w k n

-- only a proper value is asked, or `?` too
abbrev pub proper_only : Bool → Result Value Rule → Result Value Rule
proper_only true (Ok value.Unknown) = Err rule.NotProper
proper_only p r = r

abbrev pub asked : Words → Bool → Ty → ValueNode → Result Value Rule
asked w proper t n = proper_only proper (meant w t n)

-- the value, or `?` where the text breaks a rule
abbrev pub value_or_unknown : Result Value Rule → Value
value_or_unknown (Ok x) = x
value_or_unknown (Err r) = value.Unknown

-- what the text breaks there
abbrev pub rule_broken : Span → Result Value Rule → List Violation
rule_broken p (Ok x) = []
rule_broken p (Err r) = breaks p r

abbrev pub value_in : Words → Bool → Ty → ValueTree → Value
value_in w proper t v = value_or_unknown (asked w proper t v.node)

abbrev pub value_broken : Words → Bool → Ty → ValueTree → List Violation
value_broken w proper t v = rule_broken v.span (asked w proper t v.node)

-- the same of values in order, each where a value of its type is asked
abbrev pub values_in : Words → Bool → List Ty → List ValueTree → List Value
values_in w proper [] vs = []
values_in w proper (t ∷ ts) [] = []
values_in w proper (t ∷ ts) (v ∷ vs) = value_in w proper t v ∷ values_in w proper ts vs

abbrev pub values_broken : Words → Bool → List Ty → List ValueTree → List Violation
values_broken w proper [] vs = []
values_broken w proper (t ∷ ts) [] = []
values_broken w proper (t ∷ ts) (v ∷ vs) = value_broken w proper t v ++ values_broken w proper ts vs

-- Arguments of formals of these types, of what is named at a place. Where their number is another one, the values have no type and
-- aren't judged.
abbrev pub arguments_in : Words → Bool → List Ty → List ValueTree → List Value
arguments_in w proper ts vs = if length vs == length ts then values_in w proper ts vs else []

abbrev pub arguments_broken : Words → Bool → Span → List Ty → List ValueTree → List Violation
arguments_broken w proper p ts vs = if length vs == length ts then values_broken w proper ts vs else breaks p rule.WrongCount

-- the names fit the sizes: as many levels and members as these say, and least and greatest level are levels
pub record IsFit (sizes : Sizes) (w : Words) : Type 0 where
  pub levels : length w.levels ≡ sizes.levels
  pub least : IsTrue (nat_lt w.least sizes.levels)
  pub greatest : IsTrue (nat_lt w.greatest sizes.levels)
  pub members : (k : ℕ) (names : List (List ℕ)) → slice_get w.members k ≡ Some names → sizes.members k ≡ length names
