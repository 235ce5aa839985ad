use Rattle.sp_typed.proofs.Defined.{defined_fresh, defined_scope}
use Rattle.sp_typed.proofs.defined_law.Goals as goal

pub returns : goal.returns
returns c = λ sg s w fresh h t body x there plain n fine is. (defined_scope sg s w fresh h t body x there plain n fine is, defined_fresh sg s w fresh h t body x there plain n fine is)
