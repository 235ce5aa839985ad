use Rattle.std.proofs.Common.{[]}
use Rattle.sp_forms.specs.Grammars.{first}
use Rattle.sp_forms.specs.Readers.{read_line}
use Rattle.sp_instance_text.specs.Instances.{population_line, populations_line}
use Rattle.sp_instance_text.proofs.instance.populations.Goals as goal

pub returns : goal.returns
unfolding populations_line
returns c = c.many.ensures (first [] population_line) (read_line population_line) (record { tells = λ i t e. e }) (record { reads = λ alloc old new r e. e.1 })
