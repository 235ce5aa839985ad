use Rattle.std.proofs.Common.{[]}
use Rattle.sp_forms.specs.Grammars.{first}
use Rattle.sp_forms.specs.Readers.{read_line}
use Rattle.sp_parser.specs.Modules.{assertions_line, statement_line}
use Rattle.sp_parser.proofs.sections.assertions.Goals as goal

pub returns : goal.returns
unfolding assertions_line
returns c = c.section.ensures (first [] statement_line) (read_line statement_line) (record { tells = λ i t e. e }) (record { reads = λ alloc old new r e. e.1 })
