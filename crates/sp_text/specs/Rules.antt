-- The printed names of the rules, and their order at one place.
use Rattle.std.specs.Prelude.{ℕ, List, codes}
use Rattle.sp_text.specs.declared.fault.Rule.{Rule}
use Rattle.sp_text.specs.declared.fault.Rule.TheVariants as rule

-- the name of a rule; the two levels of which some rules speak are no part of it
abbrev pub rule_name : Rule → List ℕ
rule_name rule.WrongName = codes "WrongName"
rule_name rule.TwiceDeclared = codes "TwiceDeclared"
rule_name rule.UnknownName = codes "UnknownName"
rule_name rule.WrongKind = codes "WrongKind"
rule_name (rule.Cycle x y) = codes "Cycle"
rule_name (rule.NoLub x y) = codes "NoLub"
rule_name (rule.NoGlb x y) = codes "NoGlb"
rule_name rule.WrongCount = codes "WrongCount"
rule_name rule.WrongType = codes "WrongType"
rule_name rule.NotFinite = codes "NotFinite"
rule_name rule.Cyclic = codes "Cyclic"
rule_name rule.ReadsState = codes "ReadsState"
rule_name rule.LevelReadsState = codes "LevelReadsState"
rule_name rule.LevelQuantifies = codes "LevelQuantifies"
rule_name rule.NoLevel = codes "NoLevel"
rule_name rule.NewValueMisplaced = codes "NewValueMisplaced"
rule_name rule.NotDetermining = codes "NotDetermining"
rule_name rule.TargetNotInjective = codes "TargetNotInjective"
rule_name rule.NewValueOnRight = codes "NewValueOnRight"
rule_name rule.NewValueInGuard = codes "NewValueInGuard"
rule_name rule.ResultMissing = codes "ResultMissing"
rule_name rule.ResultTwice = codes "ResultTwice"
rule_name rule.NoPopulation = codes "NoPopulation"
rule_name rule.NoTable = codes "NoTable"
rule_name rule.NotInPopulation = codes "NotInPopulation"
rule_name rule.NotProper = codes "NotProper"
rule_name rule.NotVisible = codes "NotVisible"
rule_name rule.LatticeDiffers = codes "LatticeDiffers"
rule_name rule.NoMapping = codes "NoMapping"
rule_name rule.NewValueCycle = codes "NewValueCycle"
rule_name rule.BadByte = codes "BadByte"
rule_name rule.OpenComment = codes "OpenComment"
rule_name rule.NumberTooLarge = codes "NumberTooLarge"
rule_name rule.Unexpected = codes "Unexpected"
rule_name rule.BadLine = codes "BadLine"

-- The number of a rule: of two rules broken at one place the lesser one counts first. Those of the readers of texts, from
-- 31 on, never stand beside another one.
abbrev pub rule_number : Rule → ℕ
rule_number rule.WrongName = 1
rule_number rule.TwiceDeclared = 2
rule_number rule.UnknownName = 3
rule_number rule.WrongKind = 4
rule_number (rule.Cycle x y) = 5
rule_number (rule.NoLub x y) = 6
rule_number (rule.NoGlb x y) = 7
rule_number rule.WrongCount = 8
rule_number rule.WrongType = 9
rule_number rule.NotFinite = 10
rule_number rule.Cyclic = 11
rule_number rule.ReadsState = 12
rule_number rule.LevelReadsState = 13
rule_number rule.LevelQuantifies = 14
rule_number rule.NoLevel = 15
rule_number rule.NewValueMisplaced = 16
rule_number rule.NotDetermining = 17
rule_number rule.TargetNotInjective = 18
rule_number rule.NewValueOnRight = 19
rule_number rule.NewValueInGuard = 20
rule_number rule.ResultMissing = 21
rule_number rule.ResultTwice = 22
rule_number rule.NoPopulation = 23
rule_number rule.NoTable = 24
rule_number rule.NotInPopulation = 25
rule_number rule.NotProper = 26
rule_number rule.NotVisible = 27
rule_number rule.LatticeDiffers = 28
rule_number rule.NoMapping = 29
rule_number rule.NewValueCycle = 30
rule_number rule.BadByte = 31
rule_number rule.OpenComment = 32
rule_number rule.NumberTooLarge = 33
rule_number rule.Unexpected = 34
rule_number rule.BadLine = 35
