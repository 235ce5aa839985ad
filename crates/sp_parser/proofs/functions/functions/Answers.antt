use Rattle.sp_forms.specs.Grammars.{first}
use Rattle.sp_forms.specs.Readers.{read_in}
use Rattle.sp_grammar.specs.Texts.{most}
use Rattle.sp_parser.specs.Modules.{function_line, functions_line, nested_effects}
use Rattle.sp_parser.proofs.functions.functions.Goals as goal

pub returns : goal.returns
unfolding functions_line
returns c = c.section.ensures (first nested_effects.begin function_line) (read_in nested_effects most.nesting function_line) (record { tells = λ i t e. e }) (record { reads = λ alloc old new r e. e.1 })
