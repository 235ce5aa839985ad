-- The grammar of hierarchies, a value for each of its lines. For the contract of the reader of hierarchies.
use Rattle.std.specs.Prelude.{List}
use Rattle.sp_text.specs.declared.token.Token.{Token}
use Rattle.sp_tree.specs.declared.names.Ident.{Ident}
use Rattle.sp_tree.specs.declared.interface.HierarchyTree.{HierarchyTree}
use Rattle.sp_grammar.specs.Lang.{Lang}
use Rattle.sp_grammar.specs.Within.{Limits}
use Rattle.sp_grammar.specs.Codes.{word_hierarchy, word_end_hierarchy, word_over, word_by, semicolon}
use Rattle.sp_forms.specs.Grammars.{Line, token, name, seq, star, map, means}

-- the upper interface, OVER, the lower one, BY, the mapping, the semicolon
abbrev pub row_of : Ident × (Unit {0} × (Ident × (Unit {0} × (Ident × Unit {0})))) → Ident × Ident × Ident
row_of p = (p.0, p.1.1.0, p.1.1.1.1.0)

-- name OVER name BY name ";"
unfoldable pub row_line : Line (Ident × Ident × Ident)
row_line = map row_of (seq name (seq (token word_over) (seq name (seq (token word_by) (seq name (token semicolon))))))

-- {name OVER name BY name ";"}
unfoldable pub rows_line : Line (List (Ident × Ident × Ident))
rows_line = star row_line

-- HIERARCHY, the name, the rows, END_HIERARCHY
abbrev pub hierarchy_of : Unit {0} × (Ident × (List (Ident × Ident × Ident) × Unit {0})) → HierarchyTree
hierarchy_of p = record { name = p.1.0; rows = p.1.1.0 }

-- hierarchy = HIERARCHY name {name OVER name BY name ";"} END_HIERARCHY
unfoldable pub hierarchy_grammar : Line HierarchyTree
hierarchy_grammar = map hierarchy_of (seq (token word_hierarchy) (seq name (seq rows_line (token word_end_hierarchy))))

-- what a hierarchy means in the text of these tokens, within the limits
abbrev pub hierarchy_line : List Token → Limits → Lang HierarchyTree
hierarchy_line = means hierarchy_grammar
