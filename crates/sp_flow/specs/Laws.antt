-- What follows where information flows upward alone: the facts that lead to security, each proved at a function of the same
-- name, and that such specifications are secure.
use Rattle.std.specs.Prelude.{◌≡◌, ℕ, ◌<◌, true, false, IsTrue, List, []}
use Rattle.sp_values.specs.declared.value.Ty.{Ty}
use Rattle.sp_values.specs.declared.value.Value.{Value}
use Rattle.sp_values.specs.declared.place.Invocation.{Invocation}
use Rattle.sp_values.specs.Domains.{are_values}
use Rattle.sp_core.specs.declared.function.Answer.{Answer}
use Rattle.sp_core.specs.Instances.{Filling, IsAdmissible, IsInstance, IsSecure, machine_of, sizes_of, world_of}
use Rattle.sp_core.specs.Machine.{IsInvocation, IsState, MeetsConflict, Step}
use Rattle.sp_core.specs.Parts.{Parts, signature}
use Rattle.sp_core.specs.Security.{Alike, is_seen}
use Rattle.sp_core.specs.Tree.{Tree}
use Rattle.sp_core.specs.Typing.{HasType}
use Rattle.sp_core.specs.Values.{Store, value_over}
use Rattle.sp_core.specs.WellFormed.{IsWellFormed}
use Rattle.sp_flow.specs.Flows.{DerivationsFlow, FlowsUpward, ReadsUnder}

-- A well-typed expression that reads at or below l over the states s and u has one value over all pairs of states whose first
-- is alike to s and whose second is alike to u at l. Of flows it needs those of derivations alone.
abbrev pub ReferenceLaw : Type 0
ReferenceLaw = (p : Parts) (i : Filling) → IsWellFormed p → IsInstance p i → DerivationsFlow (machine_of p i) → (l : ℕ) → l < p.lattice.count →
    (s u t v : Store) → IsState (machine_of p i) s → IsState (machine_of p i) u → Alike (machine_of p i) l s t → Alike (machine_of p i) l u v →
    (xs : List Ty) (x : List Value) (e : Tree) (ty : Ty) → IsTrue (are_values (sizes_of p i) xs x) → HasType (signature p) xs e ty → ReadsUnder (machine_of p i) s u x l e →
    value_over (world_of p i) p.functions s u x e ≡ value_over (world_of p i) p.functions t v x e

-- the state after an invocation that isn't at or below l is alike at l to the one before
abbrev pub QuietLaw : Type 0
QuietLaw = (p : Parts) (i : Filling) → IsWellFormed p → IsInstance p i → FlowsUpward (machine_of p i) → (l : ℕ) → l < p.lattice.count →
    (s : Store) → IsState (machine_of p i) s → (inv : Invocation) → IsInvocation (machine_of p i) inv → is_seen (machine_of p i) l inv ≡ false →
    (a : Answer) (t : Store) → Step (machine_of p i) s inv a t → Alike (machine_of p i) l s t

-- an invocation at or below l answers the same from states that are alike at l, and leads to states that are alike there
abbrev pub AlikeStepLaw : Type 0
AlikeStepLaw = (p : Parts) (i : Filling) → IsWellFormed p → IsInstance p i → FlowsUpward (machine_of p i) → (l : ℕ) → l < p.lattice.count →
    (s t : Store) → IsState (machine_of p i) s → IsState (machine_of p i) t → Alike (machine_of p i) l s t →
    (inv : Invocation) → IsInvocation (machine_of p i) inv → is_seen (machine_of p i) l inv ≡ true →
    (a b : Answer) (s' t' : Store) → Step (machine_of p i) s inv a s' → Step (machine_of p i) t inv b t' → (b ≡ a) × Alike (machine_of p i) l s' t'

-- no invocation meets a conflict, from any state
abbrev pub NoConflictLaw : Type 0
NoConflictLaw = (p : Parts) (i : Filling) → IsWellFormed p → IsInstance p i → FlowsUpward (machine_of p i) →
    (s : Store) → IsState (machine_of p i) s → (inv : Invocation) → IsInvocation (machine_of p i) inv → MeetsConflict (machine_of p i) s inv → ⊥

-- a well-formed specification is secure where in each admissible instance information flows upward alone
abbrev pub FlowLaw : Type 0
FlowLaw = (p : Parts) → IsWellFormed p → ((i : Filling) → IsInstance p i → IsAdmissible p i → FlowsUpward (machine_of p i)) → IsSecure p

-- the record can be met: by any instance of a specification without functions
abbrev pub NoFunctionsLaw : Type 0
NoFunctionsLaw = (p : Parts) → p.functions ≡ [] → (i : Filling) → FlowsUpward (machine_of p i)
