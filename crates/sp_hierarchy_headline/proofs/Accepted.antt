-- What ACCEPTED under a heading of a report means.
use Rattle.std.proofs.Common.{◌≡◌, ◌∙◌, ℕ, List, [], ◌++◌, Some, Result, Ok, ap, codes, refl, slice_get, sym, subst}
use Rattle.std.specs.List.{Contains}
use Rattle.std.proofs.lemmas.Option.{get_or_from_slice_get, slice_get-get_or, slice_get_within}
use Rattle.sp_outside.specs.Files.{Files}
use Rattle.sp_tree.specs.declared.interface.HierarchyTree.{HierarchyTree}
use Rattle.sp_tree.specs.declared.interface.MappingTree.{MappingTree}
use Rattle.sp_tree.specs.declared.names.Ident.{Ident}
use Rattle.sp_mapping_rules.specs.Mappings.{mapping_broken, mapping_of}
use Rattle.sp_map_laws.specs.Views.{HidesViews}
use Rattle.sp_frame.specs.declared.refusal.Refusal.{Refusal}
use Rattle.sp_frame.specs.declared.refusal.Verdict.{Verdict}
use Rattle.sp_frame.specs.Endings.{printed}
use Rattle.sp_frame.specs.Uncertified.{Lines}
use Rattle.sp_sorts.specs.Sorts.{hierarchies, interface_file, mapping_file, mappings}
use Rattle.sp_sorts.specs.Texts.{TreeRead}
use Rattle.sp_sorts.proofs.Exact.{hierarchy_once, mapping_once}
use Rattle.sp_system.proofs.Lawful.{tree_lawful}
use Rattle.sp_check_command.specs.Secure.{IsSecureInterface}
use Rattle.sp_check_command.proofs.Lawful.{answered_lawful}
use Rattle.sp_hierarchy.specs.declared.members.Member.{Member}
use Rattle.sp_hierarchy.proofs.Places.{each_at, each_there}
use Rattle.sp_hierarchy_command.specs.Hierarchy.{MemberAnswered}
use Rattle.sp_hierarchy_command.specs.Secure.{Accepts, AcceptedMappingsHide, AcceptedMembersAreSecure, AnswersCome, CameTo, MemberAccepted}
use Rattle.sp_headline.proofs.Texts.{append_assoc}
use Rattle.sp_hierarchy_headline.specs.Blocks.{AcceptedUnder, interface_heading, mapping_heading}
use Rattle.sp_hierarchy_headline.specs.Hidden.{HasOneRow, IsHidingMapping, IsRowOf}
use Rattle.sp_hierarchy_headline.specs.Laws.{HierarchyLinesLaw, MappingLinesLaw, MappingRowsLaw}
use Rattle.sp_hierarchy_headline.proofs.Blocks.{claim_under}
use Rattle.sp_hierarchy_headline.proofs.Known.{known_at, known_row, read_as, same_member, scopes_known, texts_judged, texts_read}
use Rattle.sp_hierarchy_headline.proofs.Reports.{Claim, InterfaceAccepted, MappingAccepted, interface_is, mapping_is, report_sound}

-- what stands in the beginning of a text stands in the whole
longer : (heading bytes rest : List ℕ) → AcceptedUnder heading bytes → AcceptedUnder heading (bytes ++ rest)
longer heading bytes rest u = record {
  before = u.before;
  between = u.between;
  after = u.after ++ rest;
  is =
      let low = codes "ACCEPTED" ++ u.after in
      ap (λ t. t ++ rest) u.is ∙ append_assoc u.before (heading ++ (codes "\n" ++ (u.between ++ low))) rest ∙ ap (λ t. u.before ++ t) (append_assoc heading (codes "\n" ++ (u.between ++ low)) rest)
      ∙ ap (λ t. u.before ++ (heading ++ (codes "\n" ++ t))) (append_assoc u.between low rest);
  start = u.start;
  line = u.line;
  below = u.below;
  block = u.block;
}

module _ (file : List ℕ) (files : Files) (bytes rest : List ℕ) (v : Verdict) (came : CameTo file files (printed (bytes ++ rest) v)) where
  abbrev answer : Lines
  answer = printed (bytes ++ rest) v

  interface_under : (name : List ℕ) → AcceptedUnder (interface_heading name) bytes → InterfaceAccepted file files answer came name
  interface_under name u =
      (claim_under (Claim file files answer came) (interface_heading name) (interface_is name) (bytes ++ rest) (report_sound file files answer came) (longer (interface_heading name) bytes rest u)).interface name refl

  mapping_under : (name : List ℕ) → AcceptedUnder (mapping_heading name) bytes → MappingAccepted file files answer came name
  mapping_under name u =
      (claim_under (Claim file files answer came) (mapping_heading name) (mapping_is name) (bytes ++ rest) (report_sound file files answer came) (longer (mapping_heading name) bytes rest u)).mapping name refl

pub interface_lines : AnswersCome → AcceptedMembersAreSecure → HierarchyLinesLaw
interface_lines come secure files file bytes rest name v done under =
    let answer = printed (bytes ++ rest) v in
    let came = come file files answer done in
    let found = interface_under file files bytes rest v came name under in
    subst (λ n. IsSecureInterface (interface_file n) files) found.named (secure file files answer came found.place found.member found.accepted).interface

-- ---- the row of a mapping

module _ (files : Files) where
  same_hierarchy : (file : List ℕ) (s t : HierarchyTree) → TreeRead hierarchies file files (Ok s) → TreeRead hierarchies file files (Ok t) → s ≡ t
  same_hierarchy file s t p q =
      let one : ◌≡◌ {A = Result HierarchyTree Refusal} (Ok s) (Ok t) = (tree_lawful files hierarchies file hierarchy_once).once (Ok s) (Ok t) p q in
      cc

  same_text : (name : List ℕ) (s t : MappingTree) → TreeRead mappings (mapping_file name) files (Ok s) → TreeRead mappings (mapping_file name) files (Ok t) → s ≡ t
  same_text name s t p q =
      let one : ◌≡◌ {A = Result MappingTree Refusal} (Ok s) (Ok t) = (tree_lawful files mappings (mapping_file name) mapping_once).once (Ok s) (Ok t) p q in
      cc

element_at : {X : Type 0} (xs : List X) (x : X) → Contains xs x → (k : ℕ) × (slice_get xs k ≡ Some x)
element_at xs x (k, below, is) = (k, slice_get-get_or xs k x below ∙ ap Some is)

contains_at : {X : Type 0} (xs : List X) (k : ℕ) (x : X) → slice_get xs k ≡ Some x → Contains xs x
contains_at xs k x e = (k, slice_get_within xs k x e, get_or_from_slice_get xs k x x e)

module _ (file : List ℕ) (files : Files) (answer : Lines) (came : CameTo file files answer) where
  -- one interface has one answer
  accepted_at : (k l : ℕ) (m n : Member) → MemberAccepted file files answer came k m → slice_get came.hierarchy.members l ≡ Some n → m ≡ n → MemberAccepted file files answer came l n
  accepted_at k l m n a at same =
      let other = each_there MemberAnswered came.hierarchy.members came.interfaces l n came.interfaces_answered at in
      let own = each_at MemberAnswered came.hierarchy.members came.interfaces k m a.lines came.interfaces_answered a.member a.answered in
      let one : ◌≡◌ {A = Result Lines Refusal} (Ok a.lines) (Ok other.0) =
      (answered_lawful files (Some n.name) n.elaborated.spec).once (Ok a.lines) (Ok other.0) (subst (λ x. MemberAnswered x (Ok a.lines)) same own) other.2 in
      let lines : a.lines ≡ other.0 = cc in
      record { member = at; lines = other.0; answered = other.1; accepts = subst Accepts lines a.accepts }

  -- the texts of one name are one, and so are the interfaces that they name
  row_names : (row : Ident × Ident × Ident) → IsRowOf file files row → (name : List ℕ) → row.2.name ≡ name → (found : MappingAccepted file files answer came name)
      → (row.0.name ≡ found.has.row.0.name) × (row.1.name ≡ found.has.row.1.name)
  row_names row is name e found =
      let texts = texts_read file files came.texts came.read in
      let judged = texts_judged file came.texts came.hierarchy came.judged in
      let tree = same_hierarchy files file is.hierarchy came.texts.hierarchy is.read texts.hierarchy in
      let at = element_at came.texts.hierarchy.rows row (subst (λ (t : HierarchyTree). Contains t.rows row) tree is.has) in
      let other = (known_row file files came.texts came.hierarchy texts judged at.0 row at.1).1 in
      let own = found.has.known in
      let text =
      same_text files name other.text own.text (subst (λ n. TreeRead mappings (mapping_file n) files (Ok other.text)) e other.read)
      (subst (λ n. TreeRead mappings (mapping_file n) files (Ok own.text)) found.named own.read) in (
        sym other.from ∙ ap (λ (t : MappingTree). t.upper.name) text ∙ own.from,
        sym other.to ∙ ap (λ (t : MappingTree). t.lower.name) text ∙ own.to,
      )

  one_row : (name : List ℕ) → MappingAccepted file files answer came name → HasOneRow file name files
  one_row name found = record {
    row = found.has.row;
    of = record {
      hierarchy = came.texts.hierarchy;
      read = (texts_read file files came.texts came.read).hierarchy;
      has = contains_at came.texts.hierarchy.rows found.place found.has.row found.has.row_at;
    };
    named = found.named;
    only = λ other is e. row_names other is name e found;
  }

  module _ (hide : AcceptedMappingsHide) (row : Ident × Ident × Ident) (is : IsRowOf file files row) where
    hidden : MappingAccepted file files answer came row.2.name → InterfaceAccepted file files answer came row.1.name → IsHidingMapping row.2.name row.0.name row.1.name files
    hidden found low =
        let texts = texts_read file files came.texts came.read in
        let judged = texts_judged file came.texts came.hierarchy came.judged in
        let known = found.has.known in
        let names = row_names row is row.2.name refl found in
        let upper = known_at files file came.texts came.hierarchy texts judged known.place known.above known.above_at in
        let lower = known_at files file came.texts came.hierarchy texts judged found.mapped.lower known.below known.below_at in
        let one = same_member files low.member known.below low.known lower (low.named ∙ names.1 ∙ sym known.below_name) in
        let accepted = accepted_at low.place found.mapped.lower low.member known.below low.accepted known.below_at one in
        let scopes = scopes_known files known.below lower in
        let p = known.above.elaborated.spec in
        let q = known.below.elaborated.spec in
        let hides = hide file files answer came found.place found.mapped known.below found.accepted accepted in
        record {
          above = upper.system;
          below = lower.system;
          above_spec = p;
          below_spec = q;
          text = known.text;
          above_read = read_as files known.above upper row.0.name (known.above_name ∙ sym names.0);
          below_read = read_as files known.below lower row.1.name (known.below_name ∙ sym names.1);
          read = subst (λ n. TreeRead mappings (mapping_file n) files (Ok known.text)) found.named known.read;
          named = known.named ∙ found.named;
          from = known.from ∙ sym names.0;
          to = known.to ∙ sym names.1;
          unbroken = subst (λ s. mapping_broken p q s known.text ≡ []) scopes known.unbroken;
          hides = subst (λ s. HidesViews q (mapping_of p q s known.text)) scopes (subst (HidesViews q) known.meant hides);
        }

pub mapping_lines : AnswersCome → AcceptedMappingsHide → MappingLinesLaw
mapping_lines come hide files file bytes rest row v done is high low =
    let answer = printed (bytes ++ rest) v in
    let came = come file files answer done in
    hidden file files answer came hide row is (mapping_under file files bytes rest v came row.2.name high) (interface_under file files bytes rest v came row.1.name low)

pub mapping_rows : AnswersCome → MappingRowsLaw
mapping_rows come files file bytes rest name v done under =
    let answer = printed (bytes ++ rest) v in
    let came = come file files answer done in
    one_row file files answer came name (mapping_under file files bytes rest v came name under)
