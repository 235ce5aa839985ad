-- The answer of `elaborate_mapping` as the step that judges the text of a mapping; and a mapping that was judged is one to its lower interface.
use Rattle.std.proofs.Common.{◌≡◌, ℕ, List, Option, None, Some, Result, Ok, Err, refl, slice_get, sym, subst}
use Rattle.std.specs.Prelude.{IfOk}
use Rattle.sp_text.specs.declared.fault.TextFault.{TextFault}
use Rattle.sp_text.specs.declared.fault.TextFault.TheVariants as fault
use Rattle.sp_text.specs.Violations.{Judges}
use Rattle.sp_tree.specs.declared.interface.MappingTree.{MappingTree}
use Rattle.sp_core.specs.declared.mapping.Mapping.{Mapping}
use Rattle.sp_core.specs.Mappings.{IsMappingTo}
use Rattle.sp_frame.specs.declared.refusal.Stop.{Stop}
use Rattle.sp_frame.specs.declared.refusal.Stop.TheVariants as stop
use Rattle.sp_frame.specs.Steps.{Does, IsNamed, Tells}
use Rattle.sp_frame.proofs.Connective.{judged_after}
use Rattle.sp_mapping_rules.specs.Mappings.{mapping_broken, mapping_of}
use Rattle.sp_mapping_rules.specs.Upper.{IsMappingFrom}
use Rattle.sp_sorts.specs.Sorts.{mapping_file}
use Rattle.sp_hierarchy.specs.Judged.{IsMappedTo, IsMeant, MadeBetween, MappingJudged, MappingMade, MappingNamed, Placed}
use Rattle.sp_hierarchy.specs.declared.members.Member.{Member}
use Rattle.sp_hierarchy.specs.declared.texts.RowMapping.{RowMapping}

pub tells_meant : (a b : Member) (t : MappingTree) (r : Result Mapping TextFault)
    → Judges (mapping_broken a.elaborated.spec b.elaborated.spec b.elaborated.scopes t) (λ m. m ≡ mapping_of a.elaborated.spec b.elaborated.spec b.elaborated.scopes t) r
    → IfOk r (IsMappingTo b.elaborated.spec) → IfOk r (IsMappingFrom a.elaborated.spec b.elaborated.spec) → Tells (MadeBetween (Some a) (Some b) t) r
tells_meant a b t (Ok m) j to from = (j.0, record { meant = j.1; to = to; from = from })
tells_meant a b t (Err (fault.Malformed m)) j to from = j
tells_meant a b t (Err (fault.Limit l)) j to from = j
tells_meant a b t (Err fault.Memory) j to from = tt

module _ (file : List ℕ) (t : MappingTree) where
  named_to : (a b : Option Member) (m : Mapping) (answer : Result Mapping TextFault) → MadeBetween a b t answer → IsNamed file answer (Ok m)
      → (x : Member) × (b ≡ Some x) × IsMappingTo x.elaborated.spec m
  named_to (Some a) (Some b) m (Ok n) h e = let same : m ≡ n = cc in (b, refl, subst (IsMappingTo b.elaborated.spec) (sym same) h.1.to)
  named_to (Some a) (Some b) m (Err (fault.Malformed f)) h e = absurd cc
  named_to (Some a) (Some b) m (Err (fault.Limit f)) h e = absurd cc
  named_to (Some a) (Some b) m (Err fault.Memory) h e = absurd e
  named_to (Some a) None m answer h e = absurd h
  named_to None b m answer h e = absurd h

-- ---- how a mapping is judged

-- the interfaces at the two places are these
pub made_in : (ms : List Member) (r : RowMapping) (u l : ℕ) (a b : Member) (answer : Result Mapping TextFault) (out : Result Mapping Stop) → slice_get ms u ≡ Some a → slice_get ms l ≡ Some b
    → Tells (MadeBetween (Some a) (Some b) r.tree) answer → Does (IsNamed (mapping_file r.name) answer) out → Does (MappingMade ms r u l) out
made_in ms r u l a b answer out e d told named =
    judged_after (mapping_file r.name) (MadeBetween (slice_get ms u) (slice_get ms l) r.tree) answer out
    (subst (λ o. Tells (MadeBetween o (slice_get ms l) r.tree) answer) (sym e) (subst (λ o. Tells (MadeBetween (Some a) o r.tree) answer) (sym d) told)) named

-- its text is refused
pub mapping_stops : (ms : List Member) (r : RowMapping) (u l : ℕ) (s : Stop) → MappingNamed r (Ok tt) → Placed ms (mapping_file r.name) r.tree.upper (Ok u) → Placed ms (mapping_file r.name) r.tree.lower (Ok l)
    → Does (MappingMade ms r u l) (Err s) → Does (MappingJudged ms r) (Err s)
mapping_stops ms r u l (stop.Refused e) named up low made = (Ok tt, named, (Ok u, up, (Ok l, low, (Err e, made, refl))))
mapping_stops ms r u l stop.Memory named up low made = tt

-- a mapping that was judged is one to the interface at its place
pub made_to : (ms : List Member) (r : RowMapping) (u l : ℕ) (m : Mapping) → MappingMade ms r u l (Ok m) → IsMappedTo ms (record { lower = l; mapping = m })
made_to ms r u l m h = named_to (mapping_file r.name) r.tree (slice_get ms u) (slice_get ms l) m h.0 h.1 h.2
