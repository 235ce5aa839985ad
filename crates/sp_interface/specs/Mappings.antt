-- The grammar of mappings, a value for each of its lines. For the contract of the reader of mappings.
use Rattle.std.specs.Prelude.{List}
use Rattle.sp_text.specs.declared.token.Token.{Token}
use Rattle.sp_tree.specs.declared.names.Ident.{Ident}
use Rattle.sp_tree.specs.declared.interface.Equation.{Equation}
use Rattle.sp_tree.specs.declared.interface.MappingTree.{MappingTree}
use Rattle.sp_grammar.specs.Lang.{Lang}
use Rattle.sp_grammar.specs.Within.{Limits}
use Rattle.sp_grammar.specs.Codes.{word_mapping, word_end_mapping, word_from, word_to, word_is, word_types, word_parameters, word_functions, semicolon}
use Rattle.sp_forms.specs.Grammars.{Line, token, name, seq, map, section, means}
use Rattle.sp_interface.specs.Equations.{equation_line}

-- name IS name ";"
unfoldable pub type_pair_line : Line (Ident × Ident)
type_pair_line = map (λ p. (p.0, p.1.1.0)) (seq name (seq (token word_is) (seq name (token semicolon))))

-- [TYPES {name IS name ";"}]
unfoldable pub types_line : Line (List (Ident × Ident))
types_line = section word_types type_pair_line

-- [PARAMETERS {name "(" [names] ")" IS expr ";"}]
unfoldable pub parameters_line : Line (List Equation)
parameters_line = section word_parameters equation_line

-- [FUNCTIONS {name "(" [names] ")" IS expr ";"}]
unfoldable pub functions_line : Line (List Equation)
functions_line = section word_functions equation_line

-- MAPPING, the name, FROM, the upper interface, TO, the lower one, each section, END_MAPPING
abbrev pub mapping_of : Unit {0} × (Ident × (Unit {0} × (Ident × (Unit {0} × (Ident × (List (Ident × Ident) × (List Equation × (List Equation × Unit {0})))))))) → MappingTree
mapping_of p = record {
  name = p.1.0;
  upper = p.1.1.1.0;
  lower = p.1.1.1.1.1.0;
  types = p.1.1.1.1.1.1.0;
  parameters = p.1.1.1.1.1.1.1.0;
  functions = p.1.1.1.1.1.1.1.1.0;
}

-- mapping = MAPPING name FROM name TO name [TYPES {name IS name ";"}] [PARAMETERS {name "(" [names] ")" IS expr ";"}]
--   [FUNCTIONS {name "(" [names] ")" IS expr ";"}] END_MAPPING
unfoldable pub mapping_grammar : Line MappingTree
mapping_grammar = map mapping_of
    (seq (token word_mapping) (seq name (seq (token word_from) (seq name (seq (token word_to) (seq name
    (seq types_line (seq parameters_line (seq functions_line (token word_end_mapping))))))))))

-- what a mapping means in the text of these tokens, within the limits
abbrev pub mapping_line : List Token → Limits → Lang MappingTree
mapping_line = means mapping_grammar
