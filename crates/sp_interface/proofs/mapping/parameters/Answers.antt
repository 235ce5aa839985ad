use Rattle.std.proofs.Common.{[]}
use Rattle.sp_forms.specs.Grammars.{first}
use Rattle.sp_forms.specs.Readers.{read_line}
use Rattle.sp_interface.specs.Equations.{equation_line}
use Rattle.sp_interface.specs.Mappings.{parameters_line}
use Rattle.sp_interface.proofs.mapping.parameters.Goals as goal

pub returns : goal.returns
unfolding parameters_line
returns c = c.section.ensures (first [] equation_line) (read_line equation_line) (record { tells = λ i t e. e }) (record { reads = λ alloc old new r e. e.1 })
