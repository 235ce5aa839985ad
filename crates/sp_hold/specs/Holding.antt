-- What it means that the formulas of a list hold, and that each reference of an expression whose path is TRUE is one that
-- may be seen. For the step from formulas that hold to secure specifications.
use Rattle.std.specs.Prelude.{ℕ, IsTrue, List, ◌++◌}
use Rattle.std.specs.List.{All, Contains}
use Rattle.sp_values.specs.declared.value.Value.{Value}
use Rattle.sp_core.specs.Instances.{Filling, IsAdmissible, IsInstance, machine_of}
use Rattle.sp_core.specs.Machine.{AreBindings, Machine, types_of}
use Rattle.sp_core.specs.Parts.{Parts}
use Rattle.sp_core.specs.Tree.{Tree}
use Rattle.sp_core.specs.Values.{Reads, World, is_true, value_of, values_of}
use Rattle.sp_sequent.specs.Claims.{Claim}
use Rattle.sp_claims.specs.Models.{HoldsIn}
use Rattle.sp_formulas.specs.Formulas.{Formula}
use Rattle.sp_formulas.specs.References.{Reference}

-- what a formula of the list says
abbrev pub claim : Formula → Claim
claim o = record { types = types_of o.vars; hypotheses = o.hypotheses; goal = o.goal }

-- each formula of a list holds in an instance, for every two states
abbrev pub AllHoldIn : Machine → List Formula → Type 0
AllHoldIn m os = All (λ o. HoldsIn m (claim o)) os

-- each holds in each admissible instance of the specification
abbrev pub AllHold : Parts → List Formula → Type 0
AllHold p os = (i : Filling) → IsInstance p i → IsAdmissible p i → AllHoldIn (machine_of p i) os

-- the expression is TRUE over what is read of an old and of a new state
abbrev pub IsTrueOver : World → Reads → Reads → List Value → Tree → Type 0
IsTrueOver w old new x e = IsTrue (is_true (value_of w old new x e))

-- each reference whose path is TRUE is one at which Sees holds, for all proper values of its variables
abbrev pub EachReference : World → Reads → Reads → (ℕ → List Value → Type 0) → List Value → List Reference → Type 0
EachReference w old new Sees x rs =
    (r : Reference) → Contains rs r → (cs : List Value) → AreBindings w r.vars cs → All (IsTrueOver w old new (x ++ cs)) r.path → Sees r.fun (values_of w old new (x ++ cs) r.args)
