use Rattle.std.proofs.Common.{[]}
use Rattle.sp_forms.specs.Grammars.{first}
use Rattle.sp_forms.specs.Readers.{read_line}
use Rattle.sp_parser.specs.Modules.{definition_line, definitions_line}
use Rattle.sp_parser.proofs.sections.definitions.Goals as goal

pub returns : goal.returns
unfolding definitions_line
returns c = c.section.ensures (first [] definition_line) (read_line definition_line) (record { tells = λ i t e. e }) (record { reads = λ alloc old new r e. e.1 })
