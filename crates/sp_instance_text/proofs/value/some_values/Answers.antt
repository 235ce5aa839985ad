use Rattle.sp_forms.specs.Readers.{read_line}
use Rattle.sp_instance_text.specs.Values.{some_values, value_line}
use Rattle.sp_instance_text.proofs.value.some_values.Goals as goal

pub returns : goal.returns
unfolding some_values
returns c = c.separated.ensures (read_line value_line) (record { reads = λ alloc old new r e. e.1 })
