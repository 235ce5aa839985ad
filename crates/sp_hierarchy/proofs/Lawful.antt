-- Reading and judging a hierarchy come to one outcome at most, and their refusals hold of the files.
use Rattle.std.proofs.Common.{◌≡◌, ◌∙◌, ℕ, List, [], ◌∷◌, ◌++◌, Option, Some, None, Result, Ok, Err, slice_get, sym, subst}
use Rattle.sp_text.specs.declared.fault.Rule.TheVariants as rule
use Rattle.sp_outside.specs.Files.{Files}
use Rattle.sp_tree.specs.declared.interface.MappingTree.{MappingTree}
use Rattle.sp_tree.specs.declared.names.Ident.{Ident}
use Rattle.sp_core.specs.declared.mapping.Mapping.{Mapping}
use Rattle.sp_frame.specs.declared.refusal.Refusal.{Refusal}
use Rattle.sp_frame.specs.declared.refusal.Refusal.TheVariants as refusal
use Rattle.sp_frame.specs.Laws.{IsDue, IsLawful, IsOnce}
use Rattle.sp_frame.proofs.Lawful.{demand_lawful, each_lawful, gives_lawful, judged_lawful, then_lawful}
use Rattle.sp_hierarchy_rows.specs.Names.{interface_names}
use Rattle.sp_hierarchy_rows.specs.Rows.{RowJudged, RowsJudged}
use Rattle.sp_sorts.specs.Sorts.{hierarchies, interface_file, mapping_file, mappings}
use Rattle.sp_sorts.proofs.Exact.{hierarchy_once, mapping_once}
use Rattle.sp_system.proofs.Lawful.{judged_once, judged_system_lawful, read_lawful, tree_lawful}
use Rattle.sp_hierarchy.specs.Judged.{HierarchyJudged, MadeBetween, MappingJudged, MappingMade, MappingNamed, MappingsJudged, MemberJudged, MembersJudged, NameIs, Placed, place_of, placed}
use Rattle.sp_hierarchy.specs.Texts.{HierarchyRead, MappingRead, MappingsRead, NamedRead, SystemsRead}
use Rattle.sp_hierarchy.specs.declared.members.Member.{Member}
use Rattle.sp_hierarchy.specs.declared.texts.HierarchyTexts.{HierarchyTexts}
use Rattle.sp_hierarchy.specs.declared.texts.NamedSystem.{NamedSystem}
use Rattle.sp_hierarchy.specs.declared.texts.RowMapping.{RowMapping}

between_once : (a b : Option Member) (t : MappingTree) → IsOnce (MadeBetween a b t)
between_once (Some a) (Some b) t = judged_once _ _ (λ x y h k. h.meant ∙ sym k.meant)
between_once (Some a) None t = λ x y p q. absurd p
between_once None b t = λ x y p q. absurd p

module _ (files : Files) where
  -- ---- reading

  named_lawful : (name : List ℕ) → IsLawful files (NamedRead name files)
  named_lawful name = then_lawful files _ _ (read_lawful files (interface_file name)) (λ x. gives_lawful files _)

  systems_lawful : (names : List (List ℕ)) → IsLawful files (SystemsRead names files)
  unfolding SystemsRead
  systems_lawful names = each_lawful files _ names (λ name. named_lawful name)

  mapping_read_lawful : (row : Ident × Ident × Ident) → IsLawful files (MappingRead row files)
  mapping_read_lawful row = then_lawful files _ _ (tree_lawful files mappings (mapping_file row.2.name) mapping_once) (λ t. gives_lawful files _)

  mappings_read_lawful : (rows : List (Ident × Ident × Ident)) → IsLawful files (MappingsRead rows files)
  unfolding MappingsRead
  mappings_read_lawful rows = each_lawful files _ rows (λ row. mapping_read_lawful row)

  pub hierarchy_read_lawful : (file : List ℕ) → IsLawful files (HierarchyRead file files)
  hierarchy_read_lawful file =
      then_lawful files _ _ (tree_lawful files hierarchies file hierarchy_once) (λ h.
      then_lawful files _ _ (systems_lawful (interface_names h.rows)) (λ xs.
      then_lawful files _ _ (mappings_read_lawful h.rows) (λ ms. gives_lawful files (record { hierarchy = h; interfaces = xs; mappings = ms }))))

  -- ---- judging

  rows_lawful : (file : List ℕ) (before rows : List (Ident × Ident × Ident)) → IsLawful files (RowsJudged file before rows)
  rows_lawful file before [] = gives_lawful files tt
  rows_lawful file before (row ∷ rows) =
      then_lawful files _ _ (then_lawful files _ _ (demand_lawful files _ _ tt) (λ _. demand_lawful files _ _ tt)) (λ _. rows_lawful file (before ++ row ∷ []) rows)

  name_lawful : (file : List ℕ) (x : Ident) (name : List ℕ) → IsLawful files (NameIs file x name)
  name_lawful file x name = demand_lawful files _ _ tt

  member_lawful : (x : NamedSystem) → IsLawful files (MemberJudged x)
  member_lawful x =
      then_lawful files _ _ (name_lawful (interface_file x.name) x.system.interface.name x.name) (λ _.
      then_lawful files _ _ (judged_system_lawful files (interface_file x.name) x.system) (λ e. gives_lawful files _))

  placed_due : (file : List ℕ) (x : Ident) (o : Option ℕ) (r : Refusal) → Err r ≡ placed file x o → IsDue files r
  placed_due file x None r e = let same : r ≡ refusal.Broken file (record { span = x.span; rule = rule.UnknownName }) = cc in subst (IsDue files) (sym same) tt
  placed_due file x (Some k) r e = absurd cc

  placed_lawful : (ms : List Member) (file : List ℕ) (x : Ident) → IsLawful files (Placed ms file x)
  placed_lawful ms file x = record { once = λ a b p q. p ∙ sym q; due = λ r p. placed_due file x (place_of ms x.name) r p }

  made_lawful : (ms : List Member) (r : RowMapping) (u l : ℕ) → IsLawful files (MappingMade ms r u l)
  made_lawful ms r u l = judged_lawful files (mapping_file r.name) _ (between_once (slice_get ms u) (slice_get ms l) r.tree)

  mapping_named_lawful : (r : RowMapping) → IsLawful files (MappingNamed r)
  mapping_named_lawful r =
      then_lawful files _ _ (name_lawful (mapping_file r.name) r.tree.name r.name) (λ _.
      then_lawful files _ _ (name_lawful (mapping_file r.name) r.tree.upper r.upper) (λ _. name_lawful (mapping_file r.name) r.tree.lower r.lower))

  mapping_lawful : (ms : List Member) (r : RowMapping) → IsLawful files (MappingJudged ms r)
  mapping_lawful ms r =
      then_lawful files _ _ (mapping_named_lawful r) (λ _.
      then_lawful files _ _ (placed_lawful ms (mapping_file r.name) r.tree.upper) (λ u.
      then_lawful files _ _ (placed_lawful ms (mapping_file r.name) r.tree.lower) (λ l.
      then_lawful files _ _ (made_lawful ms r u l) (λ m. gives_lawful files _))))

  pub hierarchy_judged_lawful : (file : List ℕ) (x : HierarchyTexts) → IsLawful files (HierarchyJudged file x)
  hierarchy_judged_lawful file x =
      then_lawful files _ _ (rows_lawful file [] x.hierarchy.rows) (λ _.
      then_lawful files _ _ (each_lawful files MemberJudged x.interfaces member_lawful) (λ ms.
      then_lawful files _ _ (each_lawful files (MappingJudged ms) x.mappings (mapping_lawful ms)) (λ ks. gives_lawful files _)))
