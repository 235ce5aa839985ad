-- A specification without functions: it has nothing to read, nor to invoke.
use Rattle.std.proofs.Common.{◌≡◌, sym, ◌∙◌, ap, ℕ, List, [], Some}
use Rattle.std.specs.Prelude.{slice_get}
use Rattle.sp_core.specs.declared.function.Function.{Function}
use Rattle.sp_core.specs.Instances.{Filling, machine_of}
use Rattle.sp_core.specs.Parts.{Parts}
use Rattle.sp_flow.specs.Flows.{FlowsUpward}

none_there : (fs : List Function) → fs ≡ [] → (g : ℕ) (f : Function) → slice_get fs g ≡ Some f → ⊥
none_there fs e g f there = let no : slice_get [] g ≡ Some f = sym (ap (λ xs. slice_get xs g) e) ∙ there in cc

pub no_functions : (p : Parts) → p.functions ≡ [] → (i : Filling) → FlowsUpward (machine_of p i)
no_functions p e i = record {
  derivations = λ s state g f t d v there derived args. absurd (none_there p.functions e g f there);
  exceptions = λ s inv f state call. absurd (none_there p.functions e inv.fun f call.function);
  calls = λ s u inv f state new_state call plain. absurd (none_there p.functions e inv.fun f call.function);
}
