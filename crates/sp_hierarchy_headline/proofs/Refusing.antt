-- Each refusal of `hierarchy` tells names without line feeds, where its word holds none.
use Rattle.std.proofs.Common.{◌≡◌, ◌∙◌, ℕ, zero, suc, List, [], ◌∷◌, ◌++◌, Option, None, Some, Result, Ok, Err, ap, codes, refl, slice_get, subst, sym}
use Rattle.std.specs.List.{All}
use Rattle.std.proofs.lemmas.List.Elements.{All-weaker}
use Rattle.sp_text.specs.declared.fault.Rule.TheVariants as rule
use Rattle.sp_outside.specs.Files.{Files}
use Rattle.sp_tree.specs.declared.names.Ident.{Ident}
use Rattle.sp_core.specs.declared.mapping.Mapping.{Mapping}
use Rattle.sp_core.specs.Parts.{Parts}
use Rattle.sp_map_formulas.specs.Rows.{map_formulas}
use Rattle.sp_formulas.specs.Limits.{first_fault}
use Rattle.sp_frame.specs.declared.refusal.Refusal.{Refusal}
use Rattle.sp_frame.specs.declared.refusal.Refusal.TheVariants as refusal
use Rattle.sp_frame.specs.Steps.{Each, Gives, Step, Then}
use Rattle.sp_sorts.specs.Sorts.{hierarchies, interface_file, mapping_file, mappings}
use Rattle.sp_system.specs.System.{SystemRead}
use Rattle.sp_plain_names.specs.Names.{IsPlain}
use Rattle.sp_plain_names.proofs.Systems.{read_tree}
use Rattle.sp_headline.specs.Refused.{HasNamesInLine, IsInLine, RefusesInLine}
use Rattle.sp_headline.proofs.Expressions.{plain_free}
use Rattle.sp_headline.proofs.Refusals.{decided_in_line, demand_in_line, each_in_line, gives_in_line, judged_in_line, listing_in_line, read_in_line, system_in_line, then_in_line, tree_in_line}
use Rattle.sp_headline.proofs.Refusing.{answered_in_line}
use Rattle.sp_headline.proofs.Texts.{free_append}
use Rattle.sp_hierarchy_rows.specs.Names.{interface_names}
use Rattle.sp_hierarchy_rows.specs.Rows.{RowJudged, RowsJudged}
use Rattle.sp_hierarchy.specs.Judged.{HierarchyJudged, MappingJudged, MappingNamed, MemberJudged, placed, place_of, Placed}
use Rattle.sp_hierarchy.specs.Texts.{HierarchyRead, MappingRead, MappingsRead, NamedRead, SystemsRead}
use Rattle.sp_hierarchy.specs.declared.judging.Hierarchy.{Hierarchy}
use Rattle.sp_hierarchy.specs.declared.mappings.Mapped.{Mapped}
use Rattle.sp_hierarchy.specs.declared.members.Member.{Member}
use Rattle.sp_hierarchy.specs.declared.texts.HierarchyTexts.{HierarchyTexts}
use Rattle.sp_hierarchy.specs.declared.texts.NamedSystem.{NamedSystem}
use Rattle.sp_hierarchy.specs.declared.texts.RowMapping.{RowMapping}
use Rattle.sp_hierarchy.proofs.Places.{each_from}
use Rattle.sp_hierarchy_command.specs.Hierarchy.{AnsweredOver, HierarchyAnswered, HierarchyDone, HierarchyWork, MappedAnswered, MappingAnswered, MemberAnswered}
use Rattle.sp_hierarchy_headline.specs.Laws.{HierarchyRefusesLaw}
use Rattle.sp_hierarchy_headline.proofs.Known.{AreJudged, AreTexts, IsKnown, known_at, mapping_at, names_plain as spec_names_plain, row_read, spec_name, system_of, texts_judged, texts_read}
use Rattle.sp_hierarchy_headline.proofs.Names.{HasPlainRow, all_at, hierarchy_plain, names_plain}
use Rattle.sp_hierarchy_headline.proofs.Rows.{mapping_plain}

-- a step for each of a list refuses so, where each of them does
each_refuses : {X T : Type 0} (step : X → Step T) (xs : List X) → ((k : ℕ) (x : X) → slice_get xs k ≡ Some x → RefusesInLine (step x)) → RefusesInLine (Each step xs)
each_refuses step [] h = gives_in_line []
each_refuses step (x ∷ xs) h =
    then_in_line (step x) (λ y. Then (Each step xs) (λ ys. Gives (y ∷ ys))) (h 0 x refl) (λ y _.
    then_in_line (Each step xs) (λ ys. Gives (y ∷ ys)) (each_refuses step xs (λ k z e. h (suc k) z e)) (λ ys _.
    gives_in_line (y ∷ ys)))

interface_free : (name : List ℕ) → IsPlain name → IsInLine (interface_file name)
interface_free name h = free_append name (codes ".iface") (plain_free name h) refl

mapping_free : (name : List ℕ) → IsPlain name → IsInLine (mapping_file name)
mapping_free name h = free_append name (codes ".map") (plain_free name h) refl

-- ---- texts are read

module _ (file : List ℕ) (free : IsInLine file) (files : Files) where
  named_in_line : (name : List ℕ) → IsPlain name → RefusesInLine (NamedRead name files)
  named_in_line name h = then_in_line _ _ (system_in_line files (interface_file name) (interface_free name h)) (λ x _. gives_in_line _)

  mapping_in_line : (row : Ident × Ident × Ident) → HasPlainRow row → RefusesInLine (MappingRead row files)
  mapping_in_line row h = then_in_line _ _ (tree_in_line (mapping_file row.2.name) (mapping_free row.2.name h.2) files mappings) (λ t _. gives_in_line _)

  texts_in_line : RefusesInLine (HierarchyRead file files)
  unfolding SystemsRead MappingsRead
  texts_in_line =
      then_in_line _ _ (tree_in_line file free files hierarchies) (λ h read.
      let rows = hierarchy_plain h (read_tree hierarchies file files h read) in
      then_in_line _ _
      (each_in_line (λ name. NamedRead name files) (interface_names h.rows)
      (All-weaker IsPlain (λ name. RefusesInLine (NamedRead name files)) named_in_line (interface_names h.rows) (names_plain h.rows rows))) (λ xs _.
      then_in_line _ _
      (each_in_line (λ row. MappingRead row files) h.rows (All-weaker HasPlainRow (λ row. RefusesInLine (MappingRead row files)) mapping_in_line h.rows rows)) (λ ms _.
      gives_in_line _)))

  -- ---- and judged

  row_in_line : (before : List (Ident × Ident × Ident)) (row : Ident × Ident × Ident) → RefusesInLine (RowJudged file before row)
  row_in_line before row = then_in_line _ _ (demand_in_line _ _ free) (λ _ _. demand_in_line _ _ free)

  rows_in_line : (before rows : List (Ident × Ident × Ident)) → RefusesInLine (RowsJudged file before rows)
  rows_in_line before [] = gives_in_line tt
  rows_in_line before (row ∷ rows) =
      then_in_line (RowJudged file before row) (λ _. RowsJudged file (before ++ row ∷ []) rows) (row_in_line before row) (λ _ _.
      rows_in_line (before ++ row ∷ []) rows)

  member_in_line : (x : NamedSystem) → IsInLine (interface_file x.name) → SystemRead (interface_file x.name) files (Ok x.system) → RefusesInLine (MemberJudged x)
  member_in_line x own read =
      then_in_line _ _ (demand_in_line _ _ own) (λ _ _.
      then_in_line _ _ (read_in_line files (interface_file x.name) x.system own read) (λ e _.
      gives_in_line _))

  placed_in_line : (name : List ℕ) → IsInLine name → (x : Ident) (o : Option ℕ) (r : Refusal) → Err r ≡ placed name x o → HasNamesInLine r
  placed_in_line name own x None r e =
      let same : r ≡ refusal.Broken name (record { span = x.span; rule = rule.UnknownName }) = cc in
      subst HasNamesInLine (sym same) own
  placed_in_line name own x (Some k) r e = absurd cc

  names_in_line : (r : RowMapping) → IsInLine (mapping_file r.name) → RefusesInLine (MappingNamed r)
  names_in_line r own =
      then_in_line _ _ (demand_in_line _ _ own) (λ _ _.
      then_in_line _ _ (demand_in_line _ _ own) (λ _ _.
      demand_in_line _ _ own))

  made_in_line : (ms : List Member) (r : RowMapping) → IsInLine (mapping_file r.name) → RefusesInLine (MappingJudged ms r)
  made_in_line ms r own =
      then_in_line _ _ (names_in_line r own) (λ _ _.
      then_in_line (Placed ms (mapping_file r.name) r.tree.upper) _ (λ f e. placed_in_line (mapping_file r.name) own r.tree.upper (place_of ms r.tree.upper.name) f e) (λ u _.
      then_in_line (Placed ms (mapping_file r.name) r.tree.lower) _ (λ f e. placed_in_line (mapping_file r.name) own r.tree.lower (place_of ms r.tree.lower.name) f e) (λ l _.
      then_in_line _ _ (judged_in_line (mapping_file r.name) own _) (λ m _.
      gives_in_line _))))

  module _ (t : HierarchyTexts) (texts : AreTexts file files t) where
    rows_plain : All HasPlainRow t.hierarchy.rows
    rows_plain = hierarchy_plain t.hierarchy (read_tree hierarchies file files t.hierarchy texts.hierarchy)

    name_of : (name : List ℕ) (x : NamedSystem) → NamedRead name files (Ok x) → x.name ≡ name
    name_of name x (Err r, first, rest) = absurd cc
    name_of name x (Ok s, first, rest) =
        let is : x ≡ record { name = name; system = s } = cc in
        ap (λ (y : NamedSystem). y.name) is

    interface_in_line : (k : ℕ) (x : NamedSystem) → slice_get t.interfaces k ≡ Some x → RefusesInLine (MemberJudged x)
    interface_in_line k x e =
        let name = each_from (λ n. NamedRead n files) (interface_names t.hierarchy.rows) t.interfaces k x texts.interfaces e in
        let plain = all_at IsPlain (interface_names t.hierarchy.rows) k name.0 (names_plain t.hierarchy.rows rows_plain) name.1 in
        member_in_line x (subst (λ n. IsInLine (interface_file n)) (sym (name_of name.0 x name.2)) (interface_free name.0 plain)) (system_of files name.0 x name.2)

    mapping_judged_in_line : (ms : List Member) (k : ℕ) (r : RowMapping) → slice_get t.mappings k ≡ Some r → RefusesInLine (MappingJudged ms r)
    mapping_judged_in_line ms k r e =
        let row = each_from (λ x. MappingRead x files) t.hierarchy.rows t.mappings k r texts.mappings e in
        let plain = all_at HasPlainRow t.hierarchy.rows k row.0 rows_plain row.1 in
        made_in_line ms r (subst (λ n. IsInLine (mapping_file n)) (sym (row_read files row.0 r row.2).name) (mapping_free row.0.2.name plain.2))

    hierarchy_in_line : RefusesInLine (HierarchyJudged file t)
    hierarchy_in_line =
        then_in_line _ _ (rows_in_line [] t.hierarchy.rows) (λ _ _.
        then_in_line _ _ (each_refuses MemberJudged t.interfaces interface_in_line) (λ ms _.
        then_in_line _ _ (each_refuses (MappingJudged ms) t.mappings (mapping_judged_in_line ms)) (λ ks _.
        gives_in_line _)))

    -- ---- and answered

    module _ (h : Hierarchy) (judged : AreJudged t h) where
      name_free : (m : Member) → IsKnown files m → IsInLine m.name
      name_free m known = subst IsInLine (spec_name files m known) (plain_free m.elaborated.spec.name (spec_names_plain files m known).name)

      member_answers : (k : ℕ) (m : Member) → slice_get h.members k ≡ Some m → RefusesInLine (MemberAnswered m)
      member_answers k m e = answered_in_line (Some m.name) m.elaborated.spec (name_free m (known_at files file t h texts judged k m e))

      decides : (p : Parts) (m : Mapping) → IsInLine m.name → RefusesInLine (MappingAnswered p m)
      decides p m own =
          then_in_line _ _ (listing_in_line (Some m.name) own (map_formulas p m) (first_fault p 1 (map_formulas p m))) (λ os _.
          then_in_line _ _ (decided_in_line (Some m.name) own p 1 os) (λ ds _.
          gives_in_line _))

      over_in_line : (k : Mapped) (o : Option Member) → IsInLine k.mapping.name → RefusesInLine (AnsweredOver k o)
      over_in_line k (Some m) own = decides m.elaborated.spec k.mapping own
      over_in_line k None own = λ r e. absurd e

      mapping_name_free : (k : ℕ) (m : Mapped) → slice_get h.mappings k ≡ Some m → IsInLine m.mapping.name
      mapping_name_free k m e =
          let has = mapping_at file files t h texts judged k m e in
          let text = has.known.text in
          let plain = mapping_plain text (read_tree mappings (mapping_file has.row.2.name) files text has.known.read) in
          let named : m.mapping.name ≡ text.name.name = ap (λ (x : Mapping). x.name) has.known.meant in
          subst IsInLine (sym named) (plain_free text.name.name plain.name)

      mapped_answers : (k : ℕ) (m : Mapped) → slice_get h.mappings k ≡ Some m → RefusesInLine (MappedAnswered h.members m)
      mapped_answers k m e = over_in_line m (slice_get h.members m.lower) (mapping_name_free k m e)

      answers_in_line : RefusesInLine (HierarchyAnswered h)
      answers_in_line =
          then_in_line _ _ (each_refuses MemberAnswered h.members member_answers) (λ as' _.
          then_in_line _ _ (each_refuses (MappedAnswered h.members) h.mappings mapped_answers) (λ bs _.
          gives_in_line _))

    work_in_line : RefusesInLine (HierarchyWork file t)
    work_in_line = then_in_line (HierarchyJudged file t) HierarchyAnswered hierarchy_in_line (λ h j. answers_in_line h (texts_judged file t h j))

pub hierarchy_refuses : HierarchyRefusesLaw
unfolding HierarchyDone
hierarchy_refuses files file free =
    then_in_line (HierarchyRead file files) (HierarchyWork file) (texts_in_line file free files) (λ t read.
    work_in_line file free files t (texts_read file files t read))
