use Rattle.sp_forms.specs.Readers.{read_line}
use Rattle.sp_cursor.specs.Lines.{formal_line}
use Rattle.sp_parser.specs.Modules.{some_formals}
use Rattle.sp_parser.proofs.names.some_formals.Goals as goal

pub returns : goal.returns
unfolding some_formals
returns c = c.separated.ensures (read_line formal_line) (record { reads = λ alloc old new r e. e.1 })
