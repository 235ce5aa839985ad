-- The lines of equations, which interfaces and mappings share, a value for each.
use Rattle.std.specs.Prelude.{List}
use Rattle.sp_tree.specs.declared.names.Ident.{Ident}
use Rattle.sp_tree.specs.declared.expr.ExprTree.{ExprTree}
use Rattle.sp_tree.specs.declared.interface.Equation.{Equation}
use Rattle.sp_grammar.specs.Codes.{word_is, left_parenthesis, right_parenthesis, semicolon}
use Rattle.sp_forms.specs.Grammars.{Line, token, name, expr, seq, optional, map, list_or}
use Rattle.sp_cursor.specs.Lines.{names_line}

-- "(" [names] ")"
unfoldable pub formal_names_line : Line (List Ident)
formal_names_line = map (λ p. list_or (p.1.0)) (seq (token left_parenthesis) (seq (optional names_line) (token right_parenthesis)))

-- the name, its formals, IS, the value, the semicolon
abbrev pub equation_of : Ident × (List Ident × (Unit {0} × (ExprTree × Unit {0}))) → Equation
equation_of p = record { name = p.0; formals = p.1.0; value = p.1.1.1.0 }

-- name "(" [names] ")" IS expr ";"
unfoldable pub equation_line : Line Equation
equation_line = map equation_of (seq name (seq formal_names_line (seq (token word_is) (seq expr (token semicolon)))))
