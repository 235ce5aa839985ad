-- The last text of a sample has a fault.
use Rattle.std.proofs.Common.{ℕ, Ok, Err, refl}
use Rattle.sp_tree.specs.declared.interface.InterfaceTree.{InterfaceTree}
use Rattle.sp_tree.specs.declared.module.Module.{Module}
use Rattle.sp_frame.specs.declared.refusal.Stop.{Stop}
use Rattle.sp_frame.specs.declared.refusal.Stop.TheVariants as stop
use Rattle.sp_frame.specs.Steps.{Does}
use Rattle.sp_sample.specs.Instance.{sample_instance}
use Rattle.sp_sample.specs.Interface.{sample_interface}
use Rattle.sp_sample.specs.Module.{sample_module}
use Rattle.sp_sorts.specs.Sorts.{instances, interfaces, modules}
use Rattle.sp_sample_command.specs.Texts.{SampleRead, TextRead, instance_file, interface_file, module_file}

pub read_refused : (n : ℕ) (i : InterfaceTree) (m : Module) (s : Stop) → TextRead interfaces interface_file (sample_interface n) (Ok i) → TextRead modules module_file (sample_module n) (Ok m)
    → Does (TextRead instances instance_file sample_instance) (Err s) → Does (SampleRead n) (Err s)
unfolding SampleRead
read_refused n i m (stop.Refused r) first second h = (Ok i, first, (Ok m, second, (Err r, h, refl)))
read_refused n i m stop.Memory first second h = tt
