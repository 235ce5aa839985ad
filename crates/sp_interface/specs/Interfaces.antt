-- The grammar of interfaces, a value for each of its lines. For the contract of the reader of interfaces.
use Rattle.std.specs.Prelude.{List}
use Rattle.sp_text.specs.declared.token.Token.{Token}
use Rattle.sp_tree.specs.declared.names.Ident.{Ident}
use Rattle.sp_tree.specs.declared.interface.Equation.{Equation}
use Rattle.sp_tree.specs.declared.interface.InterfaceTree.{InterfaceTree}
use Rattle.sp_tree.specs.declared.interface.LatticeTree.{LatticeTree}
use Rattle.sp_grammar.specs.Lang.{Lang}
use Rattle.sp_grammar.specs.Within.{Limits}
use Rattle.sp_grammar.specs.Codes.{word_interface, word_end_interface, word_modules, word_level, word_sample, semicolon}
use Rattle.sp_forms.specs.Grammars.{Line, token, name, seq, star, map, behind, means}
use Rattle.sp_cursor.specs.Lines.{names_line}
use Rattle.sp_interface.specs.Equations.{equation_line}
use Rattle.sp_interface.specs.Lattices.{lattice_line}

-- level = LEVEL name "(" [names] ")" IS expr ";"
unfoldable pub level_line : Line Equation
level_line = behind word_level equation_line

-- {level}
unfoldable pub levels_line : Line (List Equation)
levels_line = star level_line

-- SAMPLE name ";"
unfoldable pub sample_line : Line Ident
sample_line = map (λ p. p.1.0) (seq (token word_sample) (seq name (token semicolon)))

-- MODULES names ";"
unfoldable pub modules_line : Line (List Ident)
modules_line = map (λ p. p.1.0) (seq (token word_modules) (seq names_line (token semicolon)))

-- INTERFACE, the name, the modules, the lattice, the levels, the sample, END_INTERFACE
abbrev pub interface_of : Unit {0} × (Ident × (List Ident × (LatticeTree × (List Equation × (Ident × Unit {0}))))) → InterfaceTree
interface_of p = record { name = p.1.0; modules = p.1.1.0; lattice = p.1.1.1.0; levels = p.1.1.1.1.0; sample = p.1.1.1.1.1.0 }

-- interface = INTERFACE name MODULES names ";" lattice {level} SAMPLE name ";" END_INTERFACE
unfoldable pub interface_grammar : Line InterfaceTree
interface_grammar = map interface_of
    (seq (token word_interface) (seq name (seq modules_line (seq lattice_line (seq levels_line (seq sample_line (token word_end_interface)))))))

-- what an interface means in the text of these tokens, within the limits
abbrev pub interface_line : List Token → Limits → Lang InterfaceTree
interface_line = means interface_grammar
