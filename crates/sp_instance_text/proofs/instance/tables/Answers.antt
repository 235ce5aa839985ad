use Rattle.std.proofs.Common.{[]}
use Rattle.sp_forms.specs.Grammars.{first}
use Rattle.sp_forms.specs.Readers.{read_line}
use Rattle.sp_instance_text.specs.Instances.{table_line, tables_line}
use Rattle.sp_instance_text.proofs.instance.tables.Goals as goal

pub returns : goal.returns
unfolding tables_line
returns c = c.many.ensures (first [] table_line) (read_line table_line) (record { tells = λ i t e. e }) (record { reads = λ alloc old new r e. e.1 })
