-- The grammar of scripts, a value for each of its lines. For the contract of the reader of scripts.
use Rattle.std.specs.Prelude.{List}
use Rattle.sp_text.specs.declared.token.Token.{Token}
use Rattle.sp_tree.specs.declared.names.Ident.{Ident}
use Rattle.sp_tree.specs.declared.instance.ScriptTree.{ScriptTree}
use Rattle.sp_tree.specs.declared.instance.ValueTree.{ValueTree}
use Rattle.sp_grammar.specs.Lang.{Lang}
use Rattle.sp_grammar.specs.Within.{Limits}
use Rattle.sp_grammar.specs.Codes.{semicolon}
use Rattle.sp_forms.specs.Grammars.{Line, token, name, seq, star, map, means}
use Rattle.sp_instance_text.specs.Values.{values_line}

-- name "(" [value {"," value}] ")" ";"
unfoldable pub call_line : Line (Ident × List ValueTree)
call_line = map (λ p. (p.0, p.1.0)) (seq name (seq values_line (token semicolon)))

-- {name "(" [value {"," value}] ")" ";"}
unfoldable pub calls_line : Line (List (Ident × List ValueTree))
calls_line = star call_line

-- script = {name "(" [value {"," value}] ")" ";"}
unfoldable pub script_grammar : Line ScriptTree
script_grammar = map (λ calls. record { calls = calls }) calls_line

-- what a script means in the text of these tokens, within the limits
abbrev pub script_line : List Token → Limits → Lang ScriptTree
script_line = means script_grammar
