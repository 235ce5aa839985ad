-- Preparing that ends with the instance or with the script does the whole step.
use Rattle.std.proofs.Common.{ℕ, List, Ok, Err, refl}
use Rattle.sp_core.specs.Instances.{InstanceParts}
use Rattle.sp_frame.specs.declared.refusal.Stop.{Stop}
use Rattle.sp_frame.specs.declared.refusal.Stop.TheVariants as stop
use Rattle.sp_frame.specs.Steps.{Does, Judged}
use Rattle.sp_system.specs.Instances.{InstanceJudged}
use Rattle.sp_system.specs.System.{SystemJudged}
use Rattle.sp_system.specs.declared.interface.Elaborated.{Elaborated}
use Rattle.sp_run_command.specs.Prepared.{RunPrepared, ScriptMade}
use Rattle.sp_run_command.specs.declared.texts.RunTexts.{RunTexts}

module _ (interface instance script : List ℕ) (t : RunTexts) (e : Elaborated) (first : SystemJudged interface t.system (Ok e)) where
  pub after_instance : (s : Stop) → Does (InstanceJudged e.spec instance t.instance) (Err s) → Does (RunPrepared interface instance script t) (Err s)
  after_instance (stop.Refused r) h = (Ok e, first, (Err r, h, refl))
  after_instance stop.Memory h = tt

  pub after_script : (i : InstanceParts) (s : Stop) → InstanceJudged e.spec instance t.instance (Ok i) → Does (Judged script (ScriptMade e.spec i t.script)) (Err s) → Does (RunPrepared interface instance script t) (Err s)
  after_script i (stop.Refused r) second h = (Ok e, first, (Ok i, second, (Err r, h, refl)))
  after_script i stop.Memory second h = tt
