-- The line of a refusal whose names hold no line feed is one line, and begins with another letter than A.
use Rattle.std.proofs.Common.{◌≡◌, ℕ, true, List, ◌++◌, Option, None, Some, codes, refl}
use Rattle.std.specs.Fmt.{decimal}
use Rattle.sp_text.specs.declared.fault.Limit.{Limit}
use Rattle.sp_text.specs.declared.fault.Malformed.{Malformed}
use Rattle.sp_text.specs.declared.fault.Quantity.{Quantity}
use Rattle.sp_text.specs.declared.fault.Quantity.TheVariants as quantity
use Rattle.sp_text.specs.declared.fault.Rule.{Rule}
use Rattle.sp_text.specs.declared.fault.Rule.TheVariants as rule
use Rattle.sp_text.specs.declared.limits.TheConstants.{MOST_FILE_BYTES}
use Rattle.sp_text.specs.Limits.{greatest_of, quantity_name}
use Rattle.sp_text.specs.Rules.{rule_name}
use Rattle.sp_frame.specs.declared.refusal.Refusal.{Refusal}
use Rattle.sp_frame.specs.declared.refusal.Refusal.TheVariants as refusal
use Rattle.sp_frame.specs.declared.refusal.WorkLimit.{WorkLimit}
use Rattle.sp_frame.specs.declared.refusal.WorkPlace.{WorkPlace}
use Rattle.sp_frame.specs.declared.refusal.WorkPlace.TheVariants as work_place
use Rattle.sp_frame.specs.Endings.{refused_line}
use Rattle.sp_frame.specs.Lines.{broken_order_line, found_text, limit_line, malformed_line, missing_line, not_admissible_line, owner_text, place_text, too_long_line, work_line}
use Rattle.sp_headline.specs.Refused.{HasNamesInLine, IsOwnerInLine, RefusedLinesLaw}
use Rattle.sp_headline.proofs.Digits.{decimal_free}
use Rattle.sp_headline.proofs.Texts.{Free, InQuietLines, begins_otherwise, ends_with, free_append, none_accepted, quiet_line}

-- ---- fixed words

rule_free : (r : Rule) → Free (rule_name r)
rule_free rule.WrongName = refl
rule_free rule.TwiceDeclared = refl
rule_free rule.UnknownName = refl
rule_free rule.WrongKind = refl
rule_free (rule.Cycle x y) = refl
rule_free (rule.NoLub x y) = refl
rule_free (rule.NoGlb x y) = refl
rule_free rule.WrongCount = refl
rule_free rule.WrongType = refl
rule_free rule.NotFinite = refl
rule_free rule.Cyclic = refl
rule_free rule.ReadsState = refl
rule_free rule.LevelReadsState = refl
rule_free rule.LevelQuantifies = refl
rule_free rule.NoLevel = refl
rule_free rule.NewValueMisplaced = refl
rule_free rule.NotDetermining = refl
rule_free rule.TargetNotInjective = refl
rule_free rule.NewValueOnRight = refl
rule_free rule.NewValueInGuard = refl
rule_free rule.ResultMissing = refl
rule_free rule.ResultTwice = refl
rule_free rule.NoPopulation = refl
rule_free rule.NoTable = refl
rule_free rule.NotInPopulation = refl
rule_free rule.NotProper = refl
rule_free rule.NotVisible = refl
rule_free rule.LatticeDiffers = refl
rule_free rule.NoMapping = refl
rule_free rule.NewValueCycle = refl
rule_free rule.BadByte = refl
rule_free rule.OpenComment = refl
rule_free rule.NumberTooLarge = refl
rule_free rule.Unexpected = refl
rule_free rule.BadLine = refl

quantity_free : (q : Quantity) → Free (quantity_name q)
quantity_free quantity.FileBytes = refl
quantity_free quantity.Tokens = refl
quantity_free quantity.Modules = refl
quantity_free quantity.Interfaces = refl
quantity_free quantity.Types = refl
quantity_free quantity.Members = refl
quantity_free quantity.Population = refl
quantity_free quantity.Parameters = refl
quantity_free quantity.Definitions = refl
quantity_free quantity.Functions = refl
quantity_free quantity.Assertions = refl
quantity_free quantity.Arguments = refl
quantity_free quantity.Exceptions = refl
quantity_free quantity.Changes = refl
quantity_free quantity.Height = refl
quantity_free quantity.EffectNesting = refl
quantity_free quantity.BoundVariables = refl
quantity_free quantity.Quantifiers = refl
quantity_free quantity.DerivationDepth = refl
quantity_free quantity.ExpressionNodes = refl
quantity_free quantity.FunctionNodes = refl
quantity_free quantity.Levels = refl
quantity_free quantity.Formulas = refl
quantity_free quantity.AssertionInstances = refl
quantity_free quantity.FormulaNodes = refl
quantity_free quantity.Terms = refl
quantity_free quantity.Atoms = refl
quantity_free quantity.Invocations = refl
quantity_free quantity.ChangedPlaces = refl
quantity_free quantity.CertificateDepth = refl

owner_free : (o : Option (List ℕ)) → IsOwnerInLine o → Free (owner_text o)
owner_free None h = refl
owner_free (Some name) h = free_append name (codes " ") h refl

place_free : (p : WorkPlace) → Free (place_text p)
place_free work_place.Interface = refl
place_free (work_place.Formula number) = free_append (codes "formula ") (decimal number) refl (decimal_free number)
place_free (work_place.Invocation number) = free_append (codes "invocation ") (decimal number) refl (decimal_free number)

found_free : (o : Option ℕ) → Free (found_text o)
found_free None = refl
found_free (Some number) = free_append (codes " HAS ") (decimal number) refl (decimal_free number)

-- ---- lines

-- what ends with its only line feed, and begins with another letter
line_quiet : (line : List ℕ) → Free line → begins_otherwise (line ++ codes "\n") ≡ true → InQuietLines (line ++ codes "\n")
line_quiet line h e = quiet_line (line ++ codes "\n") (ends_with line h) e

missing_quiet : (name : List ℕ) → Free name → InQuietLines (missing_line name)
missing_quiet name h = line_quiet (codes "MISSING " ++ name) (free_append (codes "MISSING ") name refl h) refl

too_long_quiet : (name : List ℕ) (most : ℕ) → Free name → InQuietLines (too_long_line name most)
too_long_quiet name most h =
    line_quiet (codes "LIMIT file bytes " ++ decimal most ++ codes " AT " ++ name)
    (free_append (codes "LIMIT file bytes " ++ decimal most ++ codes " AT ") name
    (free_append (codes "LIMIT file bytes " ++ decimal most) (codes " AT ")
    (free_append (codes "LIMIT file bytes ") (decimal most) refl (decimal_free most)) refl) h) refl

not_admissible_quiet : (name : List ℕ) (number : ℕ) → Free name → InQuietLines (not_admissible_line name number)
not_admissible_quiet name number h =
    line_quiet (codes "NOT_ADMISSIBLE " ++ name ++ codes " " ++ decimal number)
    (free_append (codes "NOT_ADMISSIBLE " ++ name ++ codes " ") (decimal number)
    (free_append (codes "NOT_ADMISSIBLE " ++ name) (codes " ")
    (free_append (codes "NOT_ADMISSIBLE ") name refl h) refl) (decimal_free number)) refl

-- the place and the rule, which the lines of broken rules have in common
module _ (name : List ℕ) (m : Malformed) (h : Free name) where
  broken_free : Free (codes "MALFORMED " ++ name ++ codes " " ++ decimal m.span.start ++ codes " " ++ decimal m.span.end ++ codes " " ++ rule_name m.rule)
  broken_free =
      free_append (codes "MALFORMED " ++ name ++ codes " " ++ decimal m.span.start ++ codes " " ++ decimal m.span.end ++ codes " ") (rule_name m.rule)
      (free_append (codes "MALFORMED " ++ name ++ codes " " ++ decimal m.span.start ++ codes " " ++ decimal m.span.end) (codes " ")
      (free_append (codes "MALFORMED " ++ name ++ codes " " ++ decimal m.span.start ++ codes " ") (decimal m.span.end)
      (free_append (codes "MALFORMED " ++ name ++ codes " " ++ decimal m.span.start) (codes " ")
      (free_append (codes "MALFORMED " ++ name ++ codes " ") (decimal m.span.start)
      (free_append (codes "MALFORMED " ++ name) (codes " ") (free_append (codes "MALFORMED ") name refl h) refl)
      (decimal_free m.span.start)) refl) (decimal_free m.span.end)) refl) (rule_free m.rule)

  malformed_quiet : InQuietLines (malformed_line name m)
  malformed_quiet =
      line_quiet (codes "MALFORMED " ++ name ++ codes " " ++ decimal m.span.start ++ codes " " ++ decimal m.span.end ++ codes " " ++ rule_name m.rule) broken_free refl

  broken_order_quiet : (first second : List ℕ) → Free first → Free second → InQuietLines (broken_order_line name m first second)
  broken_order_quiet first second k l =
      let broken = codes "MALFORMED " ++ name ++ codes " " ++ decimal m.span.start ++ codes " " ++ decimal m.span.end ++ codes " " ++ rule_name m.rule in
      line_quiet (broken ++ codes " " ++ first ++ codes " " ++ second)
      (free_append (broken ++ codes " " ++ first ++ codes " ") second
      (free_append (broken ++ codes " " ++ first) (codes " ")
      (free_append (broken ++ codes " ") first (free_append broken (codes " ") broken_free refl) k) refl) l) refl

limit_free : (q : Quantity) → Free (codes "LIMIT " ++ quantity_name q ++ codes " " ++ decimal (greatest_of q) ++ codes " AT ")
limit_free q =
    free_append (codes "LIMIT " ++ quantity_name q ++ codes " " ++ decimal (greatest_of q)) (codes " AT ")
    (free_append (codes "LIMIT " ++ quantity_name q ++ codes " ") (decimal (greatest_of q))
    (free_append (codes "LIMIT " ++ quantity_name q) (codes " ")
    (free_append (codes "LIMIT ") (quantity_name q) refl (quantity_free q)) refl) (decimal_free (greatest_of q))) refl

limit_quiet : (name : List ℕ) (l : Limit) → Free name → InQuietLines (limit_line name l)
limit_quiet name l h =
    let start = codes "LIMIT " ++ quantity_name l.quantity ++ codes " " ++ decimal (greatest_of l.quantity) ++ codes " AT " in
    line_quiet (start ++ name ++ codes " " ++ decimal l.span.start)
    (free_append (start ++ name ++ codes " ") (decimal l.span.start)
    (free_append (start ++ name) (codes " ") (free_append start name (limit_free l.quantity) h) refl) (decimal_free l.span.start)) refl

work_quiet : (w : WorkLimit) → IsOwnerInLine w.owner → InQuietLines (work_line w)
work_quiet w h =
    let start = codes "LIMIT " ++ quantity_name w.quantity ++ codes " " ++ decimal (greatest_of w.quantity) ++ codes " AT " in
    line_quiet (start ++ owner_text w.owner ++ place_text w.place ++ found_text w.found)
    (free_append (start ++ owner_text w.owner ++ place_text w.place) (found_text w.found)
    (free_append (start ++ owner_text w.owner) (place_text w.place)
    (free_append start (owner_text w.owner) (limit_free w.quantity) (owner_free w.owner h)) (place_free w.place)) (found_free w.found)) refl

pub refusal_quiet : (r : Refusal) → HasNamesInLine r → InQuietLines (refused_line r)
refusal_quiet (refusal.Missing name) h = missing_quiet name h
refusal_quiet (refusal.TooLong name most) h = too_long_quiet name most h
refusal_quiet refusal.LongWord h = too_long_quiet (codes "LEVEL") MOST_FILE_BYTES refl
refusal_quiet (refusal.Broken name m) h = malformed_quiet name m h
refusal_quiet (refusal.BrokenOrder name m first second) h = broken_order_quiet name m h.0 first second h.1 h.2
refusal_quiet (refusal.Exceeded name l) h = limit_quiet name l h
refusal_quiet (refusal.NotAdmissible name number) h = not_admissible_quiet name number h
refusal_quiet (refusal.Work limit) h = work_quiet limit h

pub refused_lines : RefusedLinesLaw
refused_lines r h = none_accepted (refused_line r) (refusal_quiet r h)
