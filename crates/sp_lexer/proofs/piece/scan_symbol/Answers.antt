use Rattle.std.proofs.Common.{refl}
use Rattle.sp_lexer.specs.Pieces.{symbol}
use Rattle.sp_lexer.specs.Faults.{bad_byte}
use Rattle.sp_lexer.proofs.Symbols.{double_longest, single_longest, no_piece, no_open}
use Rattle.sp_lexer.proofs.piece.scan_symbol.Goals as goal

pub returns-in-Some-clause-scanned : goal.returns-in-Some-clause-scanned
returns-in-Some-clause-scanned c = record {
  piece = symbol c.in-Some.symbol;
  stands = double_longest c.args.text.now c.args.place c.requires.other c.in-Some.symbol c.in-Some.ensures;
  in_range = tt;
  is_kind = refl;
}

pub returns-in-Some-single_symbol-clause-scanned : goal.returns-in-Some-single_symbol-clause-scanned
returns-in-Some-single_symbol-clause-scanned c = record {
  piece = symbol c.in-Some-single_symbol.symbol;
  stands = single_longest c.args.text.now c.args.place c.requires.other c.in_default.ensures c.in-Some-single_symbol.symbol c.requires.inside c.in-Some-single_symbol.ensures;
  in_range = tt;
  is_kind = refl;
}

pub returns-in-None-clause-scanned : goal.returns-in-None-clause-scanned
returns-in-None-clause-scanned c = λ count. rw c.span.ensures (bad_byte c.requires.inside
    (no_piece c.args.text.now c.args.place c.requires.other c.in_default.ensures c.in-None.ensures)
    (no_open c.args.text.now c.args.place c.requires.other))
