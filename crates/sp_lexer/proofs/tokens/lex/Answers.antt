use Rattle.std.proofs.Common.{rules}
use Rattle.sp_lexer.proofs.Readings.{answered_with_tokens, refused_with_fault, tokens_unsigned}
use Rattle.sp_lexer.proofs.Unique.{same_tokens, no_fault_with_tokens}
use Rattle.sp_lexer.proofs.tokens.lex.Goals as goal

pub returns-in_err-piece-clause-answered : goal.returns-in_err-piece-clause-answered
returns-in_err-piece-clause-answered c =
    answered_with_tokens c.args.text.now (λ v. v.items) c.from_residual.result (search rules)

pub returns-in_err-piece-clause-refused : goal.returns-in_err-piece-clause-refused
returns-in_err-piece-clause-refused c =
    refused_with_fault c.args.text.now (λ v. v.items) c.from_residual.result (search rules)

pub returns-in_err-add_token-clause-answered : goal.returns-in_err-add_token-clause-answered
returns-in_err-add_token-clause-answered c =
    answered_with_tokens c.args.text.now (λ v. v.items) c.from_residual-in_err-add_token.result (search rules)

pub returns-in_err-add_token-clause-refused : goal.returns-in_err-add_token-clause-refused
returns-in_err-add_token-clause-refused c =
    refused_with_fault c.args.text.now (λ v. v.items) c.from_residual-in_err-add_token.result (search rules)

pub returns-clause-answered : goal.returns-clause-answered
returns-clause-answered c = λ tokens h. same_tokens c.args.text.now c.loop-place.tokens.items tokens (search rules) h

pub returns-clause-refused : goal.returns-clause-refused
returns-clause-refused c = λ first h. no_fault_with_tokens c.args.text.now c.loop-place.tokens.items first (search rules) h

pub returns-clause-unsigned : goal.returns-clause-unsigned
returns-clause-unsigned c = tokens_unsigned c.args.text.now c.loop-place.tokens.items (search rules)
