use Rattle.std.proofs.Common.{[]}
use Rattle.sp_forms.specs.Grammars.{first}
use Rattle.sp_forms.specs.Readers.{read_line}
use Rattle.sp_parser.specs.Modules.{exception_line}
use Rattle.sp_parser.proofs.functions.exception_list.Goals as goal

pub returns : goal.returns
returns c = c.many.ensures (first [] exception_line) (read_line exception_line) (record { tells = λ i t e. e }) (record { reads = λ alloc old new r e. e.1 })
