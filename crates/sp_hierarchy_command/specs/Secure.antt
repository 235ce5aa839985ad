-- What the answer for a hierarchy means, for whoever reads it: by which answers of its interfaces and mappings it came, and what follows where one
-- of these accepts.
use Rattle.std.specs.Prelude.{◌≡◌, ℕ, List, ◌++◌, Some, Ok, slice_get}
use Rattle.sp_outside.specs.Files.{Files}
use Rattle.sp_frame.specs.declared.refusal.Verdict.TheVariants as verdict
use Rattle.sp_frame.specs.Endings.{verdict_of}
use Rattle.sp_frame.specs.Steps.{Each}
use Rattle.sp_frame.specs.Uncertified.{Lines}
use Rattle.sp_map_laws.specs.Views.{HidesViews}
use Rattle.sp_sorts.specs.Sorts.{interface_file}
use Rattle.sp_check_command.specs.Secure.{IsSecureInterface}
use Rattle.sp_hierarchy.specs.Judged.{HierarchyJudged}
use Rattle.sp_hierarchy.specs.Texts.{HierarchyRead}
use Rattle.sp_hierarchy.specs.declared.judging.Hierarchy.{Hierarchy}
use Rattle.sp_hierarchy.specs.declared.mappings.Mapped.{Mapped}
use Rattle.sp_hierarchy.specs.declared.members.Member.{Member}
use Rattle.sp_hierarchy.specs.declared.texts.HierarchyTexts.{HierarchyTexts}
use Rattle.sp_hierarchy_command.specs.Hierarchy.{HierarchyDone, MappedAnswered, MemberAnswered, whole_answer}

-- The work came to this answer: by these texts, what they stand for, and the answers of its interfaces and of its mappings.
pub record CameTo (file : List ℕ) (files : Files) (answer : Lines) : Type 0 where
  pub texts : HierarchyTexts
  pub hierarchy : Hierarchy
  pub interfaces : List Lines
  pub mappings : List Lines
  pub read : HierarchyRead file files (Ok texts)
  pub judged : HierarchyJudged file texts (Ok hierarchy)
  pub interfaces_answered : Each MemberAnswered hierarchy.members (Ok interfaces)
  pub mappings_answered : Each (MappedAnswered hierarchy.members) hierarchy.mappings (Ok mappings)
  pub whole : answer ≡ whole_answer (interfaces ++ mappings)

-- the answer accepts
abbrev pub Accepts : Lines → Type 0
Accepts a = verdict_of a ≡ verdict.Ok

-- the interface at this place is this one, and its answer accepts
pub record MemberAccepted (file : List ℕ) (files : Files) (answer : Lines) (came : CameTo file files answer) (k : ℕ) (m : Member) : Type 0 where
  pub member : slice_get came.hierarchy.members k ≡ Some m
  pub lines : Lines
  pub answered : slice_get came.interfaces k ≡ Some lines
  pub accepts : Accepts lines

-- the mapping at this place is this one, and its answer accepts
pub record MappedAccepted (file : List ℕ) (files : Files) (answer : Lines) (came : CameTo file files answer) (k : ℕ) (m : Mapped) : Type 0 where
  pub mapped : slice_get came.hierarchy.mappings k ≡ Some m
  pub lines : Lines
  pub answered : slice_get came.mappings k ≡ Some lines
  pub accepts : Accepts lines

-- The interface that the files hold by this name is secure; its specification is this one.
pub record IsSecureMember (files : Files) (m : Member) : Type 0 where
  pub interface : IsSecureInterface (interface_file m.name) files
  pub same : interface.spec ≡ m.elaborated.spec

-- ---- the laws

-- each answer comes by answers of the interfaces and mappings
abbrev pub AnswersCome : Type 0
AnswersCome = (file : List ℕ) (files : Files) (answer : Lines) → HierarchyDone file files (Ok answer) → CameTo file files answer

-- an interface whose answer accepts is secure
abbrev pub AcceptedMembersAreSecure : Type 0
AcceptedMembersAreSecure =
    (file : List ℕ) (files : Files) (answer : Lines) (came : CameTo file files answer) (k : ℕ) (m : Member) → MemberAccepted file files answer came k m → IsSecureMember files m

-- What is seen through a mapping whose answer accepts hides all that is above, where that of its lower interface accepts too.
abbrev pub AcceptedMappingsHide : Type 0
AcceptedMappingsHide =
    (file : List ℕ) (files : Files) (answer : Lines) (came : CameTo file files answer) (k : ℕ) (m : Mapped) (lower : Member) → MappedAccepted file files answer came k m
    → MemberAccepted file files answer came m.lower lower → HidesViews lower.elaborated.spec m.mapping

-- where the whole accepts, each interface is secure, and each mapping hides
pub record IsSecureHierarchy (file : List ℕ) (files : Files) : Type 0 where
  pub texts : HierarchyTexts
  pub hierarchy : Hierarchy
  pub read : HierarchyRead file files (Ok texts)
  pub judged : HierarchyJudged file texts (Ok hierarchy)
  pub interfaces : (k : ℕ) (m : Member) → slice_get hierarchy.members k ≡ Some m → IsSecureMember files m
  pub mappings : (k : ℕ) (m : Mapped) → slice_get hierarchy.mappings k ≡ Some m → (lower : Member) × (slice_get hierarchy.members m.lower ≡ Some lower) × HidesViews lower.elaborated.spec m.mapping

abbrev pub AcceptedHierarchiesAreSecure : Type 0
AcceptedHierarchiesAreSecure = (file : List ℕ) (files : Files) (answer : Lines) → HierarchyDone file files (Ok answer) → Accepts answer → IsSecureHierarchy file files
