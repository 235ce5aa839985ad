use Rattle.std.proofs.Common.{[]}
use Rattle.sp_forms.specs.Grammars.{first}
use Rattle.sp_forms.specs.Readers.{read_line}
use Rattle.sp_instance_text.specs.Scripts.{call_line, calls_line}
use Rattle.sp_instance_text.proofs.script.calls.Goals as goal

pub returns : goal.returns
unfolding calls_line
returns c = c.many.ensures (first [] call_line) (read_line call_line) (record { tells = λ i t e. e }) (record { reads = λ alloc old new r e. e.1 })
