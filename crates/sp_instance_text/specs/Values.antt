-- The lines of values, which instances and scripts share, a value for each.
use Rattle.std.specs.Prelude.{ℕ, ℤ, true, false, List}
use Rattle.sp_tree.specs.declared.instance.ValueNode.{ValueNode}
use Rattle.sp_tree.specs.declared.instance.ValueNode.TheVariants as node
use Rattle.sp_tree.specs.declared.instance.ValueTree.{ValueTree}
use Rattle.sp_grammar.specs.Codes.{word_true, word_false, word_bottom, word_top, left_parenthesis, right_parenthesis, comma, minus, question}
use Rattle.sp_expression.specs.Grammar.{signed}
use Rattle.sp_forms.specs.Grammars.{Line, token, name, digits, seq, either, optional, map, spanned, separated, list_or}

-- ["-"] number
unfoldable pub number_line : Line ℤ
number_line = map (λ p. signed p.0 p.1) (seq (optional (token minus)) digits)

-- a token that is this value
abbrev pub constant : ℕ → ValueNode → Line ValueNode
constant c n = map (λ u. n) (token c)

-- "?" | TRUE | FALSE | BOTTOM | TOP
unfoldable pub constant_line : Line ValueNode
constant_line =
    either (constant question node.Unknown)
    (either (constant word_true (node.Truth true))
    (either (constant word_false (node.Truth false))
    (either (constant word_bottom node.Bottom)
    (constant word_top node.Top))))

-- value = "?" | TRUE | FALSE | BOTTOM | TOP | ["-"] number | name
unfoldable pub node_line : Line ValueNode
node_line =
    either constant_line
    (either (map (λ n. node.Int n) number_line)
    (map (λ v. node.Name v.name) name))

-- a value with its place
unfoldable pub value_line : Line ValueTree
value_line = spanned (λ s n. record { span = s; node = n }) node_line

-- value {"," value}
unfoldable pub some_values : Line (List ValueTree)
some_values = separated comma value_line

-- "(" [value {"," value}] ")"
unfoldable pub values_line : Line (List ValueTree)
values_line = map (λ p. list_or (p.1.0)) (seq (token left_parenthesis) (seq (optional some_values) (token right_parenthesis)))
