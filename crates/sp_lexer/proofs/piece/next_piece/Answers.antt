use Rattle.std.proofs.Common.{◌+◌, refl, sym, arith}
use Rattle.sp_lexer.specs.Pieces.{blank}
use Rattle.sp_lexer.proofs.Longest.{blank_longest}
use Rattle.sp_lexer.proofs.piece.next_piece.Goals as goal

pub returns-then-is_space-clause-scanned : goal.returns-then-is_space-clause-scanned
returns-then-is_space-clause-scanned c = record {
  piece = blank;
  stands = blank_longest c.args.text.now c.args.place (c.args.place + 1) (refl, omega arith, sym c.if-is_space.ensures);
  in_range = tt;
  is_kind = refl;
}
