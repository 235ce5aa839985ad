-- What follows where the flow formulas of a specification hold: the reference fact over the references that the list of
-- formulas speaks of, that information flows upward alone, and that the specification is secure. Each is proved at a
-- function of the same name.
use Rattle.std.specs.Prelude.{◌≡◌, ℕ, ◌<◌, IsTrue, List}
use Rattle.sp_values.specs.declared.value.Ty.{Ty}
use Rattle.sp_values.specs.declared.value.Value.{Value}
use Rattle.sp_values.specs.Domains.{are_values}
use Rattle.sp_core.specs.Instances.{Filling, IsAdmissible, IsInstance, IsSecure, machine_of, sizes_of, world_of}
use Rattle.sp_core.specs.Machine.{IsState}
use Rattle.sp_core.specs.Parts.{Parts, signature}
use Rattle.sp_core.specs.Security.{Alike}
use Rattle.sp_core.specs.Tree.{Tree}
use Rattle.sp_core.specs.Typing.{HasType}
use Rattle.sp_core.specs.Values.{Store, look, value_over}
use Rattle.sp_core.specs.WellFormed.{IsWellFormed}
use Rattle.sp_flow.specs.Flows.{FlowsUpward, IsUnder}
use Rattle.sp_formulas.specs.Formulas.{formulas}
use Rattle.sp_formulas.specs.References.{references}
use Rattle.sp_hold.specs.Holding.{AllHold, AllHoldIn, EachReference}

-- Where each reference of a well-typed expression whose path is TRUE over the states s and u is at or below l, the expression
-- has one value over all pairs of states whose first is alike to s and whose second is alike to u at l.
abbrev pub ReferencesLaw : Type 0
ReferencesLaw = (p : Parts) (i : Filling) → IsWellFormed p → IsInstance p i → IsAdmissible p i → AllHoldIn (machine_of p i) (formulas p) →
    (l : ℕ) → l < p.lattice.count → (s u t v : Store) → IsState (machine_of p i) s → IsState (machine_of p i) u → Alike (machine_of p i) l s t → Alike (machine_of p i) l u v →
    (xs : List Ty) (x : List Value) (e : Tree) (ty : Ty) → IsTrue (are_values (sizes_of p i) xs x) → HasType (signature p) xs e ty →
    EachReference (world_of p i) (look (world_of p i) p.functions s) (look (world_of p i) p.functions u) (IsUnder (machine_of p i) l) x (references e) →
    value_over (world_of p i) p.functions s u x e ≡ value_over (world_of p i) p.functions t v x e

-- where the flow formulas of a well-formed specification hold in an admissible instance, information flows upward alone there
abbrev pub FlowsLaw : Type 0
FlowsLaw = (p : Parts) (i : Filling) → IsWellFormed p → IsInstance p i → IsAdmissible p i → AllHoldIn (machine_of p i) (formulas p) → FlowsUpward (machine_of p i)

-- a well-formed specification is secure where each of its flow formulas holds in each admissible instance
abbrev pub UnwindingLaw : Type 0
UnwindingLaw = (p : Parts) → IsWellFormed p → AllHold p (formulas p) → IsSecure p
