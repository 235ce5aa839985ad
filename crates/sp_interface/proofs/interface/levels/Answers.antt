use Rattle.std.proofs.Common.{[]}
use Rattle.sp_forms.specs.Grammars.{first}
use Rattle.sp_forms.specs.Readers.{read_line}
use Rattle.sp_interface.specs.Interfaces.{level_line, levels_line}
use Rattle.sp_interface.proofs.interface.levels.Goals as goal

pub returns : goal.returns
unfolding levels_line
returns c = c.many.ensures (first [] level_line) (read_line level_line) (record { tells = λ i t e. e }) (record { reads = λ alloc old new r e. e.1 })
