use Rattle.std.proofs.Common.{◌∙◌, ap, subst}
use Rattle.sp_frame.specs.Steps.{Does}
use Rattle.sp_sample.specs.Module.{sample_module}
use Rattle.sp_sorts.specs.Sorts.{modules}
use Rattle.sp_sample_command.specs.Texts.{TextRead, module_file}
use Rattle.sp_sample_command.proofs.texts.read_module.Goals as goal

pub returns : goal.returns
returns c = subst (λ t. Does (TextRead modules module_file t) c.read_as.result) (c.deref.ensures.value ∙ c.in_ok-text.ensures ∙ ap sample_module c.from.ensures) c.read_as.ensures
