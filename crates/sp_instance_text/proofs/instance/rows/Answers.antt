use Rattle.std.proofs.Common.{[]}
use Rattle.sp_forms.specs.Grammars.{first}
use Rattle.sp_forms.specs.Readers.{read_line}
use Rattle.sp_instance_text.specs.Instances.{row_line, rows_line}
use Rattle.sp_instance_text.proofs.instance.rows.Goals as goal

pub returns : goal.returns
unfolding rows_line
returns c = c.many.ensures (first [] row_line) (read_line row_line) (record { tells = λ i t e. e }) (record { reads = λ alloc old new r e. e.1 })
