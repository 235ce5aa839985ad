-- The lines of lattices, a value for each.
use Rattle.std.specs.Prelude.{ℕ, suc, List, ◌∷◌}
use Rattle.sp_text.specs.declared.token.Token.{Token}
use Rattle.sp_tree.specs.declared.names.Ident.{Ident}
use Rattle.sp_tree.specs.declared.interface.LatticeTree.{LatticeTree}
use Rattle.sp_tree.specs.declared.interface.LatticeTree.TheVariants as lattice
use Rattle.sp_grammar.specs.Codes.{span_of, word_lattice, word_order, word_chain, word_categories, less, semicolon}
use Rattle.sp_forms.specs.Grammars.{Line, token, name, seq, either, optional, star, made, map, behind, ended, separated, list_or}
use Rattle.sp_cursor.specs.Lines.{names_line}

-- "<" name
unfoldable pub above_line : Line Ident
above_line = behind less name

-- {"<" name}
unfoldable pub all_above_line : Line (List Ident)
all_above_line = star above_line

-- ORDER, the lowest name, the one above it, those above them, the semicolon
abbrev pub order_of : Unit {0} × (Ident × (Ident × (List Ident × Unit {0}))) → List Ident
order_of p = p.1.0 ∷ p.1.1.0 ∷ p.1.1.1.0

-- ORDER name "<" name {"<" name} ";"
unfoldable pub order_line : Line (List Ident)
order_line = map order_of (seq (token word_order) (seq name (seq above_line (seq all_above_line (token semicolon)))))

-- {ORDER name "<" name {"<" name} ";"}
unfoldable pub orders_line : Line (List (List Ident))
orders_line = star order_line

-- LATTICE, the levels, the semicolon, the orders; the span is that of LATTICE
abbrev pub declared_order : List Token → Unit {0} × (List Ident × (Unit {0} × List (List Ident))) → ℕ → ℕ → LatticeTree
declared_order ts p i j = lattice.Order (span_of ts i (suc i)) (p.1.0) (p.1.1.1)

-- LATTICE names ";" {ORDER name "<" name {"<" name} ";"}
unfoldable pub declared_order_line : Line LatticeTree
declared_order_line = made declared_order (seq (token word_lattice) (seq names_line (seq (token semicolon) orders_line)))

-- name {"<" name}
unfoldable pub chain_line : Line (List Ident)
chain_line = separated less name

-- [CATEGORIES names ";"]
unfoldable pub categories_line : Line (List Ident)
categories_line = map list_or (optional (behind word_categories (ended names_line semicolon)))

-- CHAIN, the chain, the semicolon, the categories; the span is that of CHAIN
abbrev pub product : List Token → Unit {0} × (List Ident × (Unit {0} × List Ident)) → ℕ → ℕ → LatticeTree
product ts p i j = lattice.Product (span_of ts i (suc i)) (p.1.0) (p.1.1.1)

-- CHAIN name {"<" name} ";" [CATEGORIES names ";"]
unfoldable pub product_line : Line LatticeTree
product_line = made product (seq (token word_chain) (seq chain_line (seq (token semicolon) categories_line)))

-- lattice = LATTICE names ";" {ORDER name "<" name {"<" name} ";"} | CHAIN name {"<" name} ";" [CATEGORIES names ";"]
unfoldable pub lattice_line : Line LatticeTree
lattice_line = either declared_order_line product_line
