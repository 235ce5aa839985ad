use mathlib.Core.Path.{fun_ext}
use Rattle.sp_eval.proofs.Overlaid.{entry_of-append}
use Rattle.sp_eval.proofs.laws.overlay_law.Goals as goal

pub returns : goal.returns
returns c = λ d s. fun_ext (λ g. fun_ext (λ v. entry_of-append d s g v))
