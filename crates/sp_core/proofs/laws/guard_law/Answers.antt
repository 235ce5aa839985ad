use Rattle.sp_core.proofs.EffectsTyped.{guards_typed}
use Rattle.sp_core.specs.Machine.{types_of}
use Rattle.sp_core.specs.Parts.{signature}
use Rattle.sp_core.proofs.laws.guard_law.Goals as goal

pub returns : goal.returns
returns c = λ p wf g f there a of. guards_typed (signature p) (types_of f.formals) g f.kind (wf.functions g f there).kind a of
