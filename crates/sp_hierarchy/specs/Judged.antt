-- A hierarchy is judged: its rows, then each interface with its sample, then each mapping. For the command that works on a hierarchy.
use Rattle.std.specs.Prelude.{◌≡◌, ℕ, List, [], Option, Some, None, Result, Ok, Err, position, slice_get}
use Rattle.std.specs.Str.{bytes_eq}
use Rattle.sp_text.specs.declared.fault.Rule.TheVariants as rule
use Rattle.sp_text.specs.declared.fault.TextFault.{TextFault}
use Rattle.sp_text.specs.Violations.{Judges}
use Rattle.sp_tree.specs.declared.interface.MappingTree.{MappingTree}
use Rattle.sp_tree.specs.declared.names.Ident.{Ident}
use Rattle.sp_core.specs.declared.mapping.Mapping.{Mapping}
use Rattle.sp_core.specs.Mappings.{IsMappingTo}
use Rattle.sp_frame.specs.declared.refusal.Refusal.{Refusal}
use Rattle.sp_frame.specs.declared.refusal.Refusal.TheVariants as refusal
use Rattle.sp_frame.specs.Steps.{Demand, Each, Gives, Judged, Step, Then}
use Rattle.sp_hierarchy_rows.specs.Rows.{RowsJudged}
use Rattle.sp_mapping_rules.specs.Lower.{AreNamesOf}
use Rattle.sp_mapping_rules.specs.Mappings.{mapping_broken, mapping_of}
use Rattle.sp_mapping_rules.specs.Upper.{IsMappingFrom}
use Rattle.sp_sorts.specs.Sorts.{interface_file, mapping_file}
use Rattle.sp_sorts.specs.Texts.{Answered}
use Rattle.sp_system.specs.System.{SystemJudged}
use Rattle.sp_hierarchy.specs.declared.judging.Hierarchy.{Hierarchy}
use Rattle.sp_hierarchy.specs.declared.mappings.Mapped.{Mapped}
use Rattle.sp_hierarchy.specs.declared.members.Member.{Member}
use Rattle.sp_hierarchy.specs.declared.texts.HierarchyTexts.{HierarchyTexts}
use Rattle.sp_hierarchy.specs.declared.texts.NamedSystem.{NamedSystem}
use Rattle.sp_hierarchy.specs.declared.texts.RowMapping.{RowMapping}

-- a name in the text of this file is this one
abbrev pub NameIs : List ℕ → Ident → List ℕ → Step (Unit {0})
NameIs file x name = Demand (x.name ≡ name) (refusal.Broken file (record { span = x.span; rule = rule.WrongName }))

-- ---- interfaces

-- the interface has the name that it is loaded by, and is judged with its modules and its sample
abbrev pub MemberJudged : NamedSystem → Step Member
MemberJudged x =
    Then (NameIs (interface_file x.name) x.system.interface.name x.name) (λ _.
    Then (SystemJudged (interface_file x.name) x.system) (λ e.
    Gives (record { name = x.name; elaborated = e })))

abbrev pub MembersJudged : List NamedSystem → Step (List Member)
MembersJudged xs = Each MemberJudged xs

-- ---- mappings

-- The names in a mapping: its own is the one that it is loaded by, and its interfaces are those of its row, in the order in which they stand.
abbrev pub MappingNamed : RowMapping → Step (Unit {0})
MappingNamed r =
    Then (NameIs (mapping_file r.name) r.tree.name r.name) (λ _.
    Then (NameIs (mapping_file r.name) r.tree.upper r.upper) (λ _.
    NameIs (mapping_file r.name) r.tree.lower r.lower))

-- the place of the interface of this name among those of the hierarchy, where it is one of them
abbrev pub place_of : List Member → List ℕ → Option ℕ
place_of ms name = position (λ (m : Member). bytes_eq m.name name) ms

abbrev pub placed : List ℕ → Ident → Option ℕ → Result ℕ Refusal
placed file x None = Err (refusal.Broken file (record { span = x.span; rule = rule.UnknownName }))
placed file x (Some k) = Ok k

-- An interface that a mapping names. The interfaces of a row are always among those of the hierarchy.
abbrev pub Placed : List Member → List ℕ → Ident → Step ℕ
Placed ms file x out = out ≡ placed file x (place_of ms x.name)

-- The mapping is what the text stands for between these two interfaces. It is one to the specification of the lower interface, from that of the
-- upper one.
pub record IsMeant (upper lower : Member) (t : MappingTree) (m : Mapping) : Type 0 where
  pub meant : m ≡ mapping_of upper.elaborated.spec lower.elaborated.spec lower.elaborated.scopes t
  pub to : IsMappingTo lower.elaborated.spec m
  pub from : IsMappingFrom upper.elaborated.spec lower.elaborated.spec m

-- what the text of a mapping breaks between these two interfaces, or what it stands for
abbrev pub MadeBetween : Option Member → Option Member → MappingTree → Result Mapping TextFault → Type 0
MadeBetween (Some a) (Some b) t = Answered (Judges (mapping_broken a.elaborated.spec b.elaborated.spec b.elaborated.scopes t) (IsMeant a b t))
MadeBetween (Some a) None t = λ _. ⊥
MadeBetween None b t = λ _. ⊥

-- the mapping from the interface at the one place to that at the other is judged
abbrev pub MappingMade : List Member → RowMapping → ℕ → ℕ → Step Mapping
MappingMade ms r u l = Judged (mapping_file r.name) (MadeBetween (slice_get ms u) (slice_get ms l) r.tree)

-- the mapping of a row is judged
abbrev pub MappingJudged : List Member → RowMapping → Step Mapped
MappingJudged ms r =
    Then (MappingNamed r) (λ _.
    Then (Placed ms (mapping_file r.name) r.tree.upper) (λ u.
    Then (Placed ms (mapping_file r.name) r.tree.lower) (λ l.
    Then (MappingMade ms r u l) (λ m.
    Gives (record { lower = l; mapping = m })))))

abbrev pub MappingsJudged : List Member → List RowMapping → Step (List Mapped)
MappingsJudged ms rs = Each (MappingJudged ms) rs

-- ---- the whole

-- the rows, then the interfaces, then the mappings
abbrev pub HierarchyJudged : List ℕ → HierarchyTexts → Step Hierarchy
HierarchyJudged file x =
    Then (RowsJudged file [] x.hierarchy.rows) (λ _.
    Then (MembersJudged x.interfaces) (λ ms.
    Then (MappingsJudged ms x.mappings) (λ ks.
    Gives (record { members = ms; mappings = ks }))))

-- the names of the interface are those that its specification stands for
abbrev pub HasNames : Member → Type 0
HasNames m = AreNamesOf m.elaborated.spec m.elaborated.scopes

-- the lower interface of the mapping is one of these, and the mapping is one to its specification
abbrev pub IsMappedTo : List Member → Mapped → Type 0
IsMappedTo ms k = (m : Member) × (slice_get ms k.lower ≡ Some m) × IsMappingTo m.elaborated.spec k.mapping
