-- What is seen of an upper machine through a mapping to a lower one, and what it means that nothing above a level is seen
-- there. For whoever reads what ACCEPTED says of a mapping.
use Rattle.std.specs.Prelude.{◌≡◌, ℕ, ◌<◌, IsTrue, List}
use Rattle.std.specs.List.{All, Contains}
use Rattle.sp_values.specs.declared.place.Invocation.{Invocation}
use Rattle.sp_values.specs.declared.value.Value.{Value}
use Rattle.sp_values.specs.Domains.{are_proper}
use Rattle.sp_core.specs.declared.function.Answer.{Answer}
use Rattle.sp_core.specs.declared.mapping.MapRow.{MapRow}
use Rattle.sp_core.specs.declared.mapping.Mapping.{Mapping}
use Rattle.sp_core.specs.Instances.{Filling, IsAdmissible, IsInstance, machine_of}
use Rattle.sp_core.specs.Machine.{IsInvocation, IsState, Machine, Run, types_of, value_at}
use Rattle.sp_core.specs.Parts.{Parts}
use Rattle.sp_core.specs.Security.{Alike, purge}
use Rattle.sp_core.specs.Tree.{tree}
use Rattle.sp_core.specs.Values.{Store, World, level_number, nothing, value_of}

-- the level of a row's upper place at values of the row's formals, translated; no state bears on it
abbrev pub row_level : World → MapRow → List Value → ℕ
row_level w r v = level_number (value_of w nothing nothing v (tree r.level))

-- the row is one of the mapping, v are proper values of its formals' types, and the level of the upper place there is at or
-- below l
pub record IsSeenRow (m : Machine) (mapping : Mapping) (l : ℕ) (r : MapRow) (v : List Value) : Type 0 where
  pub of : Contains mapping.functions r
  pub proper : IsTrue (are_proper m.world.sizes (types_of r.formals) v)
  pub below : IsTrue (m.world.below (row_level m.world r v) l)

-- the view at l is the same in two states of the lower machine: each row that is seen there has one value in both
pub record SeesAlike (m : Machine) (mapping : Mapping) (l : ℕ) (s t : Store) : Type 0 where
  pub same : (r : MapRow) (v : List Value) → IsSeenRow m mapping l r v → value_at m s v (tree r.value) ≡ value_at m t v (tree r.value)

-- In every admissible instance, for every level, all states that are alike there, and every list: after the list from the
-- one state and the purged list from the other, the view at the level is the same.
abbrev pub HidesViews : Parts → Mapping → Type 0
HidesViews p mapping =
    (i : Filling) → IsInstance p i → IsAdmissible p i →
    (l : ℕ) (s t : Store) (is' : List Invocation) → l < p.lattice.count → IsState (machine_of p i) s → IsState (machine_of p i) t → Alike (machine_of p i) l s t → All (IsInvocation (machine_of p i)) is' →
    (as' bs : List Answer) (s' t' : Store) → Run (machine_of p i) s is' as' s' → Run (machine_of p i) t (purge (machine_of p i) l is') bs t' → SeesAlike (machine_of p i) mapping l s' t'
