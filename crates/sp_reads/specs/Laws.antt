-- What an expression reads after expansion, by its text.
use Rattle.std.specs.Prelude.{◌≡◌, List, [], Bool}
use Rattle.sp_text.specs.declared.fault.Rule.{Rule}
use Rattle.sp_core.specs.Measures.{LooksAt}
use Rattle.sp_plain.specs.Text.{Text}
use Rattle.sp_scopes.specs.declared.heads.Local.{Local}
use Rattle.sp_judge.specs.Visible.{Visible}
use Rattle.sp_judge.specs.Translation.{translation}
use Rattle.sp_reads.specs.ReadTexts.{reads, IsClear}

-- an expression in whose text no flagged V-function is read looks at none after expansion
abbrev pub ClearLaw : Type 0
ClearLaw = (flags : List Bool) (r : Rule) (s : Visible) (l : List Local) (e : Text) → reads s flags r l e ≡ [] →
    LooksAt (IsClear flags) (IsClear flags) (translation s l e)
