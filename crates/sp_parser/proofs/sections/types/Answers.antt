use Rattle.std.proofs.Common.{[]}
use Rattle.sp_forms.specs.Grammars.{first}
use Rattle.sp_forms.specs.Readers.{read_line}
use Rattle.sp_parser.specs.Modules.{type_decl_line, types_line}
use Rattle.sp_parser.proofs.sections.types.Goals as goal

pub returns : goal.returns
unfolding types_line
returns c = c.section.ensures (first [] type_decl_line) (read_line type_decl_line) (record { tells = λ i t e. e }) (record { reads = λ alloc old new r e. e.1 })
