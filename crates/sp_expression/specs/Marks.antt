-- The codes of the tokens that have one spelling, for the contracts of what looks at a token.
use Rattle.std.specs.Prelude.{ℕ}
use Rattle.sp_grammar.specs.Codes.{word_code, symbol_code}
use Rattle.sp_expression.specs.declared.tokens.FixedToken.{FixedToken}
use Rattle.sp_expression.specs.declared.tokens.FixedToken.TheVariants as mark

abbrev pub mark_code : FixedToken → ℕ
mark_code (mark.Word w) = word_code w
mark_code (mark.Symbol s) = symbol_code s
