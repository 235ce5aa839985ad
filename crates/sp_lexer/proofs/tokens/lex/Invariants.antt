use Rattle.std.proofs.Common.{◌-◌, ◌≤◌, length}
use Rattle.sp_lexer.specs.Tokens.{HasTokens}
use Rattle.sp_lexer.proofs.tokens.lex.Given as goal

abbrev pub invariant-loop-place : goal.invariant-loop-place
invariant-loop-place l = record {
  within : l.place ≤ length l.text;
  tokens : HasTokens l.text l.tokens.items l.place;
}

abbrev pub decreases-loop-place : goal.decreases-loop-place
decreases-loop-place l = length l.text - l.place
