use Rattle.sp_forms.specs.Grammars.{again}
use Rattle.sp_forms.specs.Readers.{read_in}
use Rattle.sp_grammar.specs.Texts.{most}
use Rattle.sp_parser.specs.Modules.{effects_line, nested_effects}
use Rattle.sp_parser.proofs.effect.outer_effects.Goals as goal

pub returns : goal.returns
unfolding effects_line
returns c = c.many.ensures nested_effects.begin (read_in nested_effects most.nesting again) (record { tells = λ i t e. e }) (record { reads = λ alloc old new r e. e.1 })
