use Rattle.sp_forms.specs.Readers.{read_name}
use Rattle.sp_cursor.specs.Lines.{names_line}
use Rattle.sp_cursor.proofs.lines.names.Goals as goal

pub returns : goal.returns
unfolding names_line
returns c = c.separated.ensures read_name (record { reads = λ alloc old new r e. e.1 })
