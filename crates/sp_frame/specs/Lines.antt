-- The printed lines of refusals, each of which ends in a line feed, for what a report is.
use Rattle.std.specs.Prelude.{ℕ, List, [], ◌++◌, Option, Some, None, codes}
use Rattle.std.specs.Fmt.{decimal}
use Rattle.sp_text.specs.declared.fault.Limit.{Limit}
use Rattle.sp_text.specs.declared.fault.Malformed.{Malformed}
use Rattle.sp_text.specs.Limits.{greatest_of, quantity_name}
use Rattle.sp_text.specs.Rules.{rule_name}
use Rattle.sp_frame.specs.declared.refusal.WorkLimit.{WorkLimit}
use Rattle.sp_frame.specs.declared.refusal.WorkPlace.{WorkPlace}
use Rattle.sp_frame.specs.declared.refusal.WorkPlace.TheVariants as work_place

-- the words are no command
abbrev pub words_line : List ℕ
words_line = codes "WORDS\n"

-- the file isn't there
abbrev pub missing_line : List ℕ → List ℕ
missing_line name = codes "MISSING " ++ name ++ codes "\n"

-- the file has more bytes than this
abbrev pub too_long_line : List ℕ → ℕ → List ℕ
too_long_line name most = codes "LIMIT file bytes " ++ decimal most ++ codes " AT " ++ name ++ codes "\n"

-- the assertion of this number is false in the instance of this file
abbrev pub not_admissible_line : List ℕ → ℕ → List ℕ
not_admissible_line name number = codes "NOT_ADMISSIBLE " ++ name ++ codes " " ++ decimal number ++ codes "\n"

-- a rule is broken at a place of the file's text
abbrev pub malformed_line : List ℕ → Malformed → List ℕ
malformed_line name m =
    codes "MALFORMED " ++ name ++ codes " " ++ decimal m.span.start ++ codes " " ++ decimal m.span.end ++ codes " " ++ rule_name m.rule ++ codes "\n"

-- a quantity exceeds its greatest value at a place of the file's text
abbrev pub limit_line : List ℕ → Limit → List ℕ
limit_line name l =
    codes "LIMIT " ++ quantity_name l.quantity ++ codes " " ++ decimal (greatest_of l.quantity) ++ codes " AT " ++ name ++ codes " " ++ decimal l.span.start ++ codes "\n"

-- a declared order breaks a rule, at the two levels of these names
abbrev pub broken_order_line : List ℕ → Malformed → List ℕ → List ℕ → List ℕ
broken_order_line name m first second =
    codes "MALFORMED " ++ name ++ codes " " ++ decimal m.span.start ++ codes " " ++ decimal m.span.end ++ codes " " ++ rule_name m.rule ++ codes " " ++ first ++ codes " " ++ second ++ codes "\n"

-- whose formulas they are, where the work is on several interfaces or mappings
abbrev pub owner_text : Option (List ℕ) → List ℕ
owner_text None = []
owner_text (Some name) = name ++ codes " "

-- where the work exceeds a limit
abbrev pub place_text : WorkPlace → List ℕ
place_text work_place.Interface = codes "interface"
place_text (work_place.Formula number) = codes "formula " ++ decimal number
place_text (work_place.Invocation number) = codes "invocation " ++ decimal number

-- what was found, where it is told
abbrev pub found_text : Option ℕ → List ℕ
found_text None = []
found_text (Some number) = codes " HAS " ++ decimal number

-- the work exceeds a limit
abbrev pub work_line : WorkLimit → List ℕ
work_line w =
    codes "LIMIT " ++ quantity_name w.quantity ++ codes " " ++ decimal (greatest_of w.quantity) ++ codes " AT " ++ owner_text w.owner ++ place_text w.place ++ found_text w.found ++ codes "\n"
