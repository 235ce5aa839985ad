-- The work of `hierarchy` comes to one outcome at most, and its refusals hold of the files.
use Rattle.std.proofs.Common.{ℕ, List, Option, None, Some, slice_get}
use Rattle.sp_outside.specs.Files.{Files}
use Rattle.sp_core.specs.declared.mapping.Mapping.{Mapping}
use Rattle.sp_core.specs.Parts.{Parts}
use Rattle.sp_formulas.specs.Limits.{first_fault}
use Rattle.sp_map_formulas.specs.Rows.{map_formulas}
use Rattle.sp_frame.specs.Laws.{IsLawful}
use Rattle.sp_frame.proofs.Lawful.{each_lawful, gives_lawful, then_lawful}
use Rattle.sp_formula_list.proofs.Lawful.{listing_lawful}
use Rattle.sp_deciding.proofs.Lawful.{all_lawful}
use Rattle.sp_check_command.proofs.Lawful.{answered_lawful}
use Rattle.sp_hierarchy.specs.declared.judging.Hierarchy.{Hierarchy}
use Rattle.sp_hierarchy.specs.declared.mappings.Mapped.{Mapped}
use Rattle.sp_hierarchy.specs.declared.members.Member.{Member}
use Rattle.sp_hierarchy.proofs.Lawful.{hierarchy_judged_lawful, hierarchy_read_lawful}
use Rattle.sp_hierarchy_command.specs.Hierarchy.{AnsweredOver, HierarchyAnswered, HierarchyDone, MappedAnswered, MappingAnswered, MemberAnswered}

module _ (files : Files) where
  member_lawful : (m : Member) → IsLawful files (MemberAnswered m)
  member_lawful m = answered_lawful files (Some m.name) m.elaborated.spec

  mapping_lawful : (p : Parts) (m : Mapping) → IsLawful files (MappingAnswered p m)
  mapping_lawful p m =
      then_lawful files _ _ (listing_lawful files (Some m.name) (map_formulas p m) (first_fault p 1 (map_formulas p m))) (λ os.
      then_lawful files _ _ (all_lawful files (Some m.name) p 1 os) (λ ds. gives_lawful files _))

  over_lawful : (k : Mapped) (lower : Option Member) → IsLawful files (AnsweredOver k lower)
  over_lawful k (Some m) = mapping_lawful m.elaborated.spec k.mapping
  over_lawful k None = record { once = λ a b h g. absurd h; due = λ r h. absurd h }

  hierarchy_answered_lawful : (h : Hierarchy) → IsLawful files (HierarchyAnswered h)
  hierarchy_answered_lawful h =
      then_lawful files _ _ (each_lawful files MemberAnswered h.members member_lawful) (λ as'.
      then_lawful files _ _ (each_lawful files (MappedAnswered h.members) h.mappings (λ k. over_lawful k (slice_get h.members k.lower))) (λ bs. gives_lawful files _))

  pub hierarchy_lawful : (file : List ℕ) → IsLawful files (HierarchyDone file files)
  unfolding HierarchyDone
  hierarchy_lawful file =
      then_lawful files _ _ (hierarchy_read_lawful files file) (λ x.
      then_lawful files _ _ (hierarchy_judged_lawful files file x) (λ h. hierarchy_answered_lawful h))
