use Rattle.std.proofs.Common.{[]}
use Rattle.sp_forms.specs.Grammars.{first}
use Rattle.sp_forms.specs.Readers.{read_line}
use Rattle.sp_parser.specs.Modules.{parameter_line, parameters_line}
use Rattle.sp_parser.proofs.sections.parameters.Goals as goal

pub returns : goal.returns
unfolding parameters_line
returns c = c.section.ensures (first [] parameter_line) (read_line parameter_line) (record { tells = λ i t e. e }) (record { reads = λ alloc old new r e. e.1 })
