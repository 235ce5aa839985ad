use Rattle.std.proofs.Common.{[]}
use Rattle.sp_forms.specs.Grammars.{first}
use Rattle.sp_forms.specs.Readers.{read_line}
use Rattle.sp_parser.specs.Modules.{external_line, externals_line}
use Rattle.sp_parser.proofs.sections.externals.Goals as goal

pub returns : goal.returns
unfolding externals_line
returns c = c.section.ensures (first [] external_line) (read_line external_line) (record { tells = λ i t e. e }) (record { reads = λ alloc old new r e. e.1 })
