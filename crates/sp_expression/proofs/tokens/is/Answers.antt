use Rattle.std.proofs.Common.{◌<◌, sym, ◌∙◌}
use Rattle.std.proofs.lemmas.Bool.{eqb-true}
use Rattle.sp_grammar.proofs.Tokens.{code_within, word_range, symbol_range}
use Rattle.sp_expression.specs.Marks.{mark_code}
use Rattle.sp_expression.specs.declared.tokens.FixedToken.{FixedToken}
use Rattle.sp_expression.specs.declared.tokens.FixedToken.TheVariants as mark
use Rattle.sp_expression.proofs.tokens.is.Goals as goal

some_code : (m : FixedToken) → 0 < mark_code m
some_code (mark.Word w) = (word_range w).0
some_code (mark.Symbol s) = (symbol_range s).0

pub returns-clause-within : goal.returns-clause-within
returns-clause-within c = λ t. code_within c.args.tokens.now c.args.place (mark_code c.args.mark) (sym c.code.ensures ∙ sym (eqb-true _ _ t) ∙ c.mark_number.ensures) (some_code c.args.mark)
