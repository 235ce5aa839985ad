-- The grammar of instances, a value for each of its lines. For the contract of the reader of instances.
use Rattle.std.specs.Prelude.{List}
use Rattle.sp_text.specs.declared.token.Token.{Token}
use Rattle.sp_tree.specs.declared.names.Ident.{Ident}
use Rattle.sp_tree.specs.declared.instance.InstanceTree.{InstanceTree}
use Rattle.sp_tree.specs.declared.instance.TableTree.{TableTree}
use Rattle.sp_tree.specs.declared.instance.ValueTree.{ValueTree}
use Rattle.sp_grammar.specs.Lang.{Lang}
use Rattle.sp_grammar.specs.Within.{Limits}
use Rattle.sp_grammar.specs.Codes.{word_instance, word_end_instance, word_population, word_parameter, word_otherwise, left_brace, right_brace, colon, equal, semicolon}
use Rattle.sp_forms.specs.Grammars.{Line, token, name, seq, optional, star, map, list_or, means}
use Rattle.sp_cursor.specs.Lines.{names_line}
use Rattle.sp_instance_text.specs.Values.{value_line, values_line}

-- "{" [names] "}"
unfoldable pub members_line : Line (List Ident)
members_line = map (λ p. list_or (p.1.0)) (seq (token left_brace) (seq (optional names_line) (token right_brace)))

-- POPULATION name "=" "{" [names] "}" ";"
unfoldable pub population_line : Line (Ident × List Ident)
population_line = map (λ p. (p.1.0, p.1.1.1.0)) (seq (token word_population) (seq name (seq (token equal) (seq members_line (token semicolon)))))

-- {POPULATION name "=" "{" [names] "}" ";"}
unfoldable pub populations_line : Line (List (Ident × List Ident))
populations_line = star population_line

-- "(" [value {"," value}] ")" "=" value ";"
unfoldable pub row_line : Line (List ValueTree × ValueTree)
row_line = map (λ p. (p.0, p.1.1.0)) (seq values_line (seq (token equal) (seq value_line (token semicolon))))

-- {"(" [value {"," value}] ")" "=" value ";"}
unfoldable pub rows_line : Line (List (List ValueTree × ValueTree))
rows_line = star row_line

-- OTHERWISE value ";"
unfoldable pub other_line : Line ValueTree
other_line = map (λ p. p.1.0) (seq (token word_otherwise) (seq value_line (token semicolon)))

-- table = PARAMETER name ":" {"(" [value {"," value}] ")" "=" value ";"} OTHERWISE value ";"
unfoldable pub table_line : Line TableTree
table_line = map (λ p. record { name = p.1.0; rows = p.1.1.1.0; other = p.1.1.1.1 })
    (seq (token word_parameter) (seq name (seq (token colon) (seq rows_line other_line))))

-- {table}
unfoldable pub tables_line : Line (List TableTree)
tables_line = star table_line

-- INSTANCE, the name, the populations, the tables, END_INSTANCE
abbrev pub instance_of : Unit {0} × (Ident × (List (Ident × List Ident) × (List TableTree × Unit {0}))) → InstanceTree
instance_of p = record { name = p.1.0; populations = p.1.1.0; tables = p.1.1.1.0 }

-- instance = INSTANCE name {POPULATION name "=" "{" [names] "}" ";"} {table} END_INSTANCE
unfoldable pub instance_grammar : Line InstanceTree
instance_grammar = map instance_of (seq (token word_instance) (seq name (seq populations_line (seq tables_line (token word_end_instance)))))

-- what an instance means in the text of these tokens, within the limits
abbrev pub instance_line : List Token → Limits → Lang InstanceTree
instance_line = means instance_grammar
