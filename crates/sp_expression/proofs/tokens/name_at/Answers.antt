use Rattle.std.proofs.Common.{sym, lit<}
use Rattle.sp_grammar.proofs.Tokens.{no_name, no_token}
use Rattle.sp_expression.proofs.tokens.name_at.Goals as goal

pub returns-in_default : goal.returns-in_default
returns-in_default c = record {
  none = no_name c.args.tokens.now c.args.place c.in-Some.token.now (sym c.in-Some.ensures) c.in_default.not-Name;
  some = tt;
  within = tt;
}

pub returns-in-None-clause-none : goal.returns-in-None-clause-none
returns-in-None-clause-none c = no_token c.args.tokens.now c.args.place (sym c.in-None.ensures) _ (lit< tt)
