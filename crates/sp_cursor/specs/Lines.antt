-- The lines that several texts share, as values. What the first two mean is what `sp_expression` says of them.
use Rattle.std.specs.Prelude.{List}
use Rattle.sp_tree.specs.declared.names.Ident.{Ident}
use Rattle.sp_tree.specs.declared.names.TypeTree.{TypeTree}
use Rattle.sp_tree.specs.declared.names.TypeTree.TheVariants as ty
use Rattle.sp_tree.specs.declared.names.FormalTree.{FormalTree}
use Rattle.sp_grammar.specs.Codes.{word_boolean, word_integer, word_level, comma}
use Rattle.sp_forms.specs.Grammars.{Line, token, name, seq, either, map, spanned, separated}

-- type = BOOLEAN | INTEGER | LEVEL | name
unfoldable pub type_line : Line TypeTree
type_line =
    either (spanned (λ s u. ty.Boolean s) (token word_boolean))
    (either (spanned (λ s u. ty.Integer s) (token word_integer))
    (either (spanned (λ s u. ty.Level s) (token word_level))
    (map (λ v. ty.Named v) name)))

-- formal = type name
unfoldable pub formal_line : Line FormalTree
formal_line = map (λ p. record { ty = p.0; name = p.1 }) (seq type_line name)

-- names = name {"," name}
unfoldable pub names_line : Line (List Ident)
names_line = separated comma name
