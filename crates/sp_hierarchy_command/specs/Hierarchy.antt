-- `hierarchy`: whether each flow formula of the interfaces of a hierarchy is proved, and each of the mappings between them.
use Rattle.std.specs.Prelude.{ℕ, Bool, true, false, List, ◌++◌, Option, Some, None, codes, length, slice_get}
use Rattle.std.specs.List.{flat_map, list_all}
use Rattle.sp_outside.specs.Files.{Files}
use Rattle.sp_core.specs.declared.mapping.Mapping.{Mapping}
use Rattle.sp_core.specs.Parts.{Parts}
use Rattle.sp_formulas.specs.Formulas.{Formula}
use Rattle.sp_formulas.specs.Limits.{first_fault}
use Rattle.sp_map_formulas.specs.Rows.{map_formulas}
use Rattle.sp_frame.specs.declared.refusal.Verdict.{Verdict}
use Rattle.sp_frame.specs.declared.refusal.Verdict.TheVariants as verdict
use Rattle.sp_frame.specs.Endings.{certified, printed, verdict_of}
use Rattle.sp_frame.specs.Steps.{Each, Gives, Step, Then}
use Rattle.sp_frame.specs.Uncertified.{Lines}
use Rattle.sp_formula_list.specs.Listed.{IsListing}
use Rattle.sp_deciding.specs.Decided.{AllDecided, open_count}
use Rattle.sp_deciding.specs.Verdicts.{all_lines, last_line, verdict_by}
use Rattle.sp_deciding.specs.declared.deciding.Decision.{Decision}
use Rattle.sp_check_command.specs.Check.{CheckAnswered}
use Rattle.sp_hierarchy.specs.Judged.{HierarchyJudged}
use Rattle.sp_hierarchy.specs.Texts.{HierarchyRead}
use Rattle.sp_hierarchy.specs.declared.judging.Hierarchy.{Hierarchy}
use Rattle.sp_hierarchy.specs.declared.mappings.Mapped.{Mapped}
use Rattle.sp_hierarchy.specs.declared.members.Member.{Member}
use Rattle.sp_hierarchy.specs.declared.texts.HierarchyTexts.{HierarchyTexts}

-- ---- formulas with an owner

-- what was decided of each formula, and what follows of all, behind the line that names their owner
abbrev pub owned_answer : List ℕ → Parts → List Formula → List Decision → Lines
owned_answer line p os ds = printed (line ++ all_lines p 1 os ds ++ last_line (length os) (open_count ds)) (verdict_by (open_count ds))

-- formulas over a specification are decided, and then it is told
abbrev pub OwnedAnswered : List ℕ → List ℕ → Parts → List Formula → Step Lines
OwnedAnswered owner line p os = Then (AllDecided (Some owner) p 1 os) (λ ds. Gives (owned_answer line p os ds))

-- ---- interfaces

-- an interface is answered as by `check`; its refusals have its name
abbrev pub MemberAnswered : Member → Step Lines
MemberAnswered m = CheckAnswered (Some m.name) m.elaborated.spec

-- ---- mappings

-- `MAPPING name`
abbrev pub mapping_line : Mapping → List ℕ
mapping_line m = codes "MAPPING " ++ m.name ++ codes "\n"

-- the flow formulas of a mapping to this specification
abbrev pub MapFormulasListed : Parts → Mapping → Step (List Formula)
MapFormulasListed p m = IsListing (Some m.name) (map_formulas p m) (first_fault p 1 (map_formulas p m))

-- They are listed, then each is decided, and then it is told. A refusal has the name of the mapping.
abbrev pub MappingAnswered : Parts → Mapping → Step Lines
MappingAnswered p m = Then (MapFormulasListed p m) (λ os. OwnedAnswered m.name (mapping_line m) p os)

-- a mapping is answered over the specification of its lower interface, which is always there
abbrev pub AnsweredOver : Mapped → Option Member → Step Lines
AnsweredOver k (Some m) = MappingAnswered m.elaborated.spec k.mapping
AnsweredOver k None = λ _. ⊥

abbrev pub MappedAnswered : List Member → Mapped → Step Lines
MappedAnswered ms k = AnsweredOver k (slice_get ms k.lower)

-- ---- the whole

abbrev pub text_of : Lines → List ℕ
text_of (printed bytes v) = bytes
text_of (certified c) = absurd c

-- the texts of answers, one behind the other
abbrev pub texts_of : List Lines → List ℕ
texts_of as' = flat_map text_of as'

abbrev pub is_accepting : Verdict → Bool
is_accepting verdict.Ok = true
is_accepting verdict.Refused = false
is_accepting verdict.Conflict = false

-- each of these answers accepts
abbrev pub all_accept : List Lines → Bool
all_accept as' = list_all (λ a. is_accepting (verdict_of a)) as'

abbrev pub whole_line : Bool → List ℕ
whole_line true = codes "HIERARCHY ACCEPTED\n"
whole_line false = codes "HIERARCHY REFUSED\n"

abbrev pub whole_verdict : Bool → Verdict
whole_verdict true = verdict.Ok
whole_verdict false = verdict.Refused

-- the answers of all interfaces and mappings, and what follows of them
abbrev pub whole_answer : List Lines → Lines
whole_answer as' = printed (texts_of as' ++ whole_line (all_accept as')) (whole_verdict (all_accept as'))

-- Each interface is answered, then each mapping, and then it is told of all. So a list of formulas is made when all before it are decided.
abbrev pub HierarchyAnswered : Hierarchy → Step Lines
HierarchyAnswered h =
    Then (Each MemberAnswered h.members) (λ as'.
    Then (Each (MappedAnswered h.members) h.mappings) (λ bs.
    Gives (whole_answer (as' ++ bs))))

-- the texts are judged, and then the formulas
abbrev pub HierarchyWork : List ℕ → HierarchyTexts → Step Lines
HierarchyWork file x = Then (HierarchyJudged file x) HierarchyAnswered

-- the texts are read, and then the work is done
unfoldable pub HierarchyDone : List ℕ → Files → Step Lines
HierarchyDone file files = Then (HierarchyRead file files) (HierarchyWork file)
