-- The fifth fact: where information flows upward alone, each list of invocations has one run, and what isn't at or below a
-- level changes nothing that is seen there. By induction on the list, from the facts on single steps.
use Rattle.std.proofs.Common.{inl, inr}
use Rattle.sp_values.specs.declared.place.Invocation.{Invocation}
use Rattle.sp_core.specs.declared.function.Answer.{Answer}
use Rattle.sp_core.specs.Instances.{Filling, IsInstance, machine_of}
use Rattle.sp_core.specs.Machine.{IsInvocation, IsState, Step}
use Rattle.sp_core.specs.Parts.{Parts}
use Rattle.sp_core.specs.Security.{IsSecureInSteps, IsSecureMachine}
use Rattle.sp_core.specs.Values.{Store}
use Rattle.sp_core.specs.WellFormed.{IsWellFormed}
use Rattle.sp_core.proofs.Lists.{secure_by}
use Rattle.sp_core.proofs.StatesTyped.{step_typed}
use Rattle.sp_core.proofs.Steps.{step_one, step_or_conflict}
use Rattle.sp_flow.specs.Flows.{FlowsUpward}
use Rattle.sp_flow.proofs.AlikeSteps.{alike_step}
use Rattle.sp_flow.proofs.NoConflict.{no_conflict}
use Rattle.sp_flow.proofs.Quiet.{quiet_step}

module _ (p : Parts) (i : Filling) (wf : IsWellFormed p) (inst : IsInstance p i) (flow : FlowsUpward (machine_of p i)) where
  some_step : (s : Store) (inv : Invocation) → IsState (machine_of p i) s → IsInvocation (machine_of p i) inv → (a : Answer) × (t : Store) × Step (machine_of p i) s inv a t
  some_step s inv state call = elim (step_or_conflict p i wf s inv call) [
    | inl step ↦ step
    | inr conflict ↦ absurd (no_conflict p i wf inst flow s state inv call conflict)
  ]

  secure_steps : IsSecureInSteps (machine_of p i) (Step (machine_of p i))
  secure_steps = record {
    typed = λ s t inv a state call h. step_typed p i wf inst s state inv a t call h;
    some = some_step;
    one = λ s t u inv a b state call h k. step_one (machine_of p i) s inv a b t u h k;
    quiet = λ l s t inv a is_level state call above h. quiet_step p i wf inst flow l is_level s state inv call above a t h;
    alike = λ l s t s' t' inv a b is_level state state_t call seen alike h k. alike_step p i wf inst flow l is_level s t state state_t alike inv call seen a b s' t' h k;
  }

  pub secure : IsSecureMachine (machine_of p i)
  secure = secure_by (machine_of p i) (Step (machine_of p i)) secure_steps
