use Rattle.std.proofs.Common.{◌∙◌, ap, subst}
use Rattle.sp_frame.specs.Steps.{Does}
use Rattle.sp_sample.specs.Interface.{sample_interface}
use Rattle.sp_sorts.specs.Sorts.{interfaces}
use Rattle.sp_sample_command.specs.Texts.{TextRead, interface_file}
use Rattle.sp_sample_command.proofs.texts.read_interface.Goals as goal

pub returns : goal.returns
returns c = subst (λ t. Does (TextRead interfaces interface_file t) c.read_as.result) (c.deref.ensures.value ∙ c.in_ok-text.ensures ∙ ap sample_interface c.from.ensures) c.read_as.ensures
